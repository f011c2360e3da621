-- Document 01, "meet, isa": which rule decides. The rules stand in the document's order. `u` is the used words, a and b are the operands.
use Rattle.std.specs.Prelude.{not, cond, ◌&&◌, List, ℕ, eqb}
use Rattle.std.specs.Float.{binary64}
use Rattle.std.specs.Float.Ieee.{of_bits}
use Rattle.words.specs.Kinds.{Bot, Top, Ctrl, XCtrl, Int, Float, Tuple, Fref, MemPtr, Mem}
use Rattle.wellformed.specs.Entry.{is_struct, largest_alias}
use Rattle.words.specs.Columns.{kind_on, count_on, size_on, bits_on, name_on, first_field}
use Rattle.type_float.specs.Float.{size_from, reading_of}
use Rattle.type_float.specs.declared.Reading.{Reading}
use Rattle.rules.specs.Column.{◌⇒◌∣◌}
use Rattle.float_meet.specs.declared.FloatMeet.{FloatMeet}
use Rattle.float_meet.specs.declared.FloatMeet.TheVariants as FloatMeet-variants
use Rattle.wellformed.specs.FreshHandles.{struct_top, struct_bot, float_b32, float_bot, mem_top, mem_bot}
use Rattle.meet_rules.specs.Names.{same_name, same_fields}
use Rattle.meet_rules.specs.declared.Rule.{Rule}
use Rattle.meet_rules.specs.declared.Rule.TheVariants.{First, Second, Bottom, Ints, Floats, Tuples, Structs, Pointers, Memories}
use Rattle.meet_rules.specs.declared.StructRule.{StructRule}
use Rattle.meet_rules.specs.declared.StructRule.TheVariants.{Former, Latter, Lowest, Fields}

-- ---- two types, whose heads have the kinds j and k and the counts m and n

-- "Mem: 79 wins, 76 yields; else .. types meet"
abbrev pub mem_rule : ℕ → ℕ → Rule
mem_rule a b =
    eqb a mem_bot ⇒ First ∣
    eqb b mem_bot ⇒ Second ∣
    eqb a mem_top ⇒ Second ∣
    eqb b mem_top ⇒ First ∣
    Memories

-- two of one family
unfoldable pub pair_rule : ℕ → ℕ → ℕ → ℕ → ℕ → ℕ → Rule
pair_rule a b j k m n =
    eqb j Int && eqb k Int ⇒ Ints ∣
    eqb j Float && eqb k Float ⇒ Floats ∣
    -- "by element; other length, Bot"
    eqb j Tuple && eqb k Tuple ⇒ cond (eqb m n) Tuples Bottom ∣
    is_struct j && is_struct k ⇒ Structs ∣
    eqb j MemPtr && eqb k MemPtr ⇒ Pointers ∣
    eqb j Mem && eqb k Mem ⇒ mem_rule a b ∣
    -- "Other pairs: Bot."
    Bottom

unfoldable pub rule_for : ℕ → ℕ → ℕ → ℕ → ℕ → ℕ → Rule
rule_for a b j k m n =
    -- "Same handle: itself."
    eqb a b ⇒ First ∣
    -- "Bot wins, Top loses"
    eqb j Bot ⇒ First ∣
    eqb k Bot ⇒ Second ∣
    eqb k Top ⇒ First ∣
    eqb j Top ⇒ Second ∣
    -- "Ctrl with XCtrl is Ctrl"
    eqb j Ctrl && eqb k XCtrl ⇒ First ∣
    eqb j XCtrl && eqb k Ctrl ⇒ Second ∣
    pair_rule a b j k m n

abbrev pub type_rule : List ℕ → ℕ → ℕ → Rule
type_rule u a b = rule_for a b (kind_on u a) (kind_on u b) (count_on u a) (count_on u b)

-- ---- two structs or forward references

-- structs that are neither $BOT nor $TOP
unfoldable pub named_rule : List ℕ → ℕ → ℕ → StructRule
named_rule u a b =
    -- "other name, $BOT"
    not (same_name u (name_on u a) (name_on u b)) ⇒ Lowest ∣
    -- "a forward reference yields to its namesake"; "two forward references the second"
    eqb (kind_on u a) Fref ⇒ Latter ∣
    eqb (kind_on u b) Fref ⇒ Former ∣
    -- "field count, names and aliases must match .., else $BOT"
    not (eqb (count_on u a) (count_on u b)) ⇒ Lowest ∣
    not (same_fields u (count_on u a) (first_field a) (first_field b)) ⇒ Lowest ∣
    -- "types meet"
    Fields

unfoldable pub struct_rule : List ℕ → ℕ → ℕ → StructRule
struct_rule u a b =
    -- "Same handle: itself."
    eqb a b ⇒ Former ∣
    -- "$BOT wins, $TOP yields"
    eqb a struct_bot ⇒ Lowest ∣
    eqb b struct_bot ⇒ Lowest ∣
    eqb a struct_top ⇒ Latter ∣
    eqb b struct_top ⇒ Former ∣
    named_rule u a b

-- ---- floats

-- the reading of the float at h: its size, and its constant's bits
abbrev pub reading_on : List ℕ → ℕ → Reading
reading_on u h = reading_of (record { sz = size_from (size_on u h); con = of_bits binary64 (bits_on u h) })

-- "answers 64 and 32 are handles 61 and 58"
abbrev pub float_handle : ℕ → ℕ → FloatMeet → ℕ
float_handle a b FloatMeet-variants.First = a
float_handle a b FloatMeet-variants.Second = b
float_handle a b FloatMeet-variants.Single = float_b32
float_handle a b FloatMeet-variants.Double = float_bot

-- ---- aliases

-- "the shared alias or 4,294,967,295"
abbrev pub shared_alias : ℕ → ℕ → ℕ
shared_alias x y = cond (eqb x y) x largest_alias
