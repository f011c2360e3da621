-- Document 01, "meet, isa", "dual, join" and "glb, lub, is_final, make_ro": the calls, each a function from its arguments and the words to the reply and the words.
use Rattle.std.specs.Prelude.{List, [], ◌∷◌, ℕ}
use Rattle.call.specs.Call.{Outcome, flag, call, ask}
use Rattle.call.specs.Handles.{types_rows}
use Rattle.meet.specs.Meet.{meet_of, isa_of}
use Rattle.walk_rules.specs.declared.Walk.{Walk}
use Rattle.walk_rules.specs.declared.Walk.TheVariants.{Dual, Glb, Lub}
use Rattle.walk.specs.Walk.{walk_of}
use Rattle.join.specs.Join.{join_of}
use Rattle.finals.specs.Final.{is_final_of}
use Rattle.make_ro.specs.ReadOnly.{make_ro_of}

abbrev pub meet_call : ℕ → ℕ → List ℕ → Outcome
meet_call a b = call (types_rows (a ∷ b ∷ [])) (λ u. meet_of u a b)

-- "isa is yes if meet would hand back the second handle; it writes nothing and never gives 12."
abbrev pub isa_call : ℕ → ℕ → List ℕ → Outcome
isa_call a b = ask (types_rows (a ∷ b ∷ [])) (λ u. flag (isa_of u a b))

-- dual, glb and lub
abbrev pub walk_call : Walk → ℕ → List ℕ → Outcome
walk_call walk a = call (types_rows (a ∷ [])) (λ u. walk_of walk u a)

abbrev pub dual_call : ℕ → List ℕ → Outcome
dual_call = walk_call Dual

abbrev pub glb_call : ℕ → List ℕ → Outcome
glb_call = walk_call Glb

abbrev pub lub_call : ℕ → List ℕ → Outcome
lub_call = walk_call Lub

abbrev pub join_call : ℕ → ℕ → List ℕ → Outcome
join_call a b = call (types_rows (a ∷ b ∷ [])) (λ u. join_of u a b)

abbrev pub is_final_call : ℕ → List ℕ → Outcome
is_final_call a = ask (types_rows (a ∷ [])) (λ u. flag (is_final_of u a))

abbrev pub make_ro_call : ℕ → List ℕ → Outcome
make_ro_call a = call (types_rows (a ∷ [])) (λ u. make_ro_of u a)
