pub mod FreshTable
