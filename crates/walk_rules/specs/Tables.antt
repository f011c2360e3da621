-- Document 01, "dual, join" and "glb, lub, is_final, make_ro": dual, glb and lub are one walk of a type, and differ in the tables below. `u` is
-- the used words, a the operand.
use Rattle.std.specs.Prelude.{cond, List, [], ◌∷◌, ℕ, ◌-◌, eqb, leb, length}
use Rattle.words.specs.Kinds.{Bot, Top, Ctrl, XCtrl, Int, Float, Tuple, Struct, Fref, MemPtr}
use Rattle.words.specs.Made.{Grown, there, make}
use Rattle.words.specs.Columns.{min_on, max_on, size_on, size_zero, other_sign, first_flags_on, final_in}
use Rattle.makers.specs.Entries.{int_entry, float_entry}
use Rattle.rules.specs.Column.{◌⇒◌∣◌}
use Rattle.structs.specs.Remade.{remake}
use Rattle.wellformed.specs.FreshHandles.{bot, top, ctrl, xctrl, struct_top, struct_bot, int_top, int_bot, float_top, float_bot}
use Rattle.walk_rules.specs.declared.Walk.{Walk}
use Rattle.walk_rules.specs.declared.Walk.TheVariants.{Dual, Glb, Lub}
use Rattle.walk_rules.specs.declared.Form.{Form}
use Rattle.walk_rules.specs.declared.Form.TheVariants.{Is, AnInt, AFloat, ATuple, AStruct, APointer, AMemory}

-- ---- Bot, Top, Ctrl and XCtrl

abbrev pub end_of : Walk → ℕ → ℕ
-- dual: "Bot and Top, Ctrl and XCtrl .. change places"
end_of Dual k = eqb k Bot ⇒ top ∣ eqb k Top ⇒ bot ∣ eqb k Ctrl ⇒ xctrl ∣ ctrl  -- the last of XCtrl
-- "glb: Bot, Top, XCtrl to Bot; Ctrl stays"
end_of Glb k = eqb k Ctrl ⇒ ctrl ∣ bot
-- "lub: Bot, Top, XCtrl .. to Top; Ctrl to XCtrl"
end_of Lub k = eqb k Ctrl ⇒ xctrl ∣ top

-- ---- which form an answer has

-- dual alone: "$BOT and $TOP change places"
abbrev pub struct_form : Walk → ℕ → Form
struct_form Dual a = eqb a struct_top ⇒ Is struct_bot ∣ eqb a struct_bot ⇒ Is struct_top ∣ AStruct
struct_form Glb a = AStruct
struct_form Lub a = AStruct

-- "lub: .. tuples to Top"
abbrev pub tuple_form : Walk → Form
tuple_form Dual = ATuple
tuple_form Glb = ATuple
tuple_form Lub = Is top

-- of the type at a, whose kind is k
unfoldable pub form_for : Walk → ℕ → ℕ → Form
form_for walk a k =
    -- Bot, Top, Ctrl, XCtrl (a name, kind 0, is no type and is not come to)
    leb k XCtrl ⇒ Is (end_of walk k) ∣
    eqb k Int ⇒ AnInt ∣
    eqb k Float ⇒ AFloat ∣
    eqb k Tuple ⇒ tuple_form walk ∣
    eqb k Struct ⇒ struct_form walk a ∣
    -- "forward references stay", said of dual; in the Rust glb and lub leave them too
    eqb k Fref ⇒ Is a ∣
    eqb k MemPtr ⇒ APointer ∣
    -- Mem, the last kind
    AMemory

-- ---- Ints and Floats

-- "Int ends change places"; "glb: .. Int 25"; "lub: .. Int 22"
abbrev pub int_of : Walk → ℕ → List ℕ → Grown
int_of Dual a u = make u (int_entry (max_on u a) (min_on u a))
int_of Glb a u = there u int_bot
int_of Lub a u = there u int_top

-- "float sizes change sign, constants stay"; "glb: .. Float 61"; "lub: .. Float 49". A constant is a float of size 0; an entry has sz + 64.
abbrev pub float_of : Walk → ℕ → List ℕ → Grown
float_of Dual a u = cond (eqb (size_on u a) size_zero) (there u a) (make u (float_entry (other_sign (size_on u a)) 0))
float_of Glb a u = there u float_bot
float_of Lub a u = there u float_top

-- ---- nil and final

-- "final and nil negated"; glb: "pointers get nil"; lub: "pointers lose nil"
abbrev pub nil_of : Walk → ℕ → ℕ
nil_of Dual nil = 1 - nil
nil_of Glb nil = 1
nil_of Lub nil = 0

-- of a field's flags; for glb and lub "finals and aliases stay"
abbrev pub final_of : Walk → ℕ → ℕ
final_of Dual flags = 1 - final_in flags
final_of Glb flags = final_in flags
final_of Lub flags = final_in flags

unfoldable pub finals_of : Walk → List ℕ → List ℕ
finals_of walk [] = []
finals_of walk (v ∷ vs) = final_of walk v ∷ finals_of walk vs

-- the struct at a with these types, of which there is one for each field
unfoldable pub walk_fields : Walk → ℕ → List ℕ → List ℕ → Grown
walk_fields walk a types u = remake a types (finals_of walk (first_flags_on u (length types) a)) u
