pub mod FloatRule
