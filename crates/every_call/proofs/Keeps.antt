-- Every call keeps what calls keep: the store is well formed again, old entries keep their words, no two entries become equal, and the ends of Ints stay 64-bit words. Assumes
-- nothing.
use mathlib.Core.Path.{◌≡◌}
use mathlib.Core.Bool.{true}
use mathlib.Core.List.{List, [], ◌∷◌}
use Prim.Native.Nat.{ℕ, zero, suc, ◌^◌, ◌<◌, max}
use native.Mathlib.Omega.{arith}
use borrow.Author.Tests.{ltb-true}
use lib.Dec.{ltb}
use lib.ListN.{get_or}
use Rattle.wellformed.specs.Entry.{all}
use Rattle.wellformed.specs.Form.{well_formed, used_words}
use Rattle.wellformed.proofs.Bools.{and_left, and_right}
use Rattle.call.specs.Call.{flag}
use Rattle.call.specs.Handles.{types_rows}
use Rattle.call.specs.Keep.{Keeps}
use Rattle.call.proofs.Keep.{call_keeps}
use Rattle.kept.proofs.Kept.{ask_keeps, int_keeps, float_keeps, tuple_keeps, str_keeps, fref_keeps, pointer_keeps, memory_keeps, struct_keeps}
use Rattle.kept.proofs.Array.{ary_keeps}
use Rattle.parts.specs.Parts.{Good}
use Rattle.parts.proofs.Good.{well_good, part_below, Answers}
use Rattle.meet.specs.Meet.{meet_of, isa_of}
use Rattle.meet.proofs.Nice.{meet_nice}
use Rattle.walk_rules.specs.declared.Walk.{Walk}
use Rattle.walk_rules.specs.declared.Walk.TheVariants.{Dual, Glb, Lub}
use Rattle.walk.specs.Walk.{walk_of}
use Rattle.walk.proofs.Nice.{walk_nice}
use Rattle.join.specs.Join.{join_of}
use Rattle.join.proofs.Adds.{join_adds}
use Rattle.finals.specs.Final.{is_final_of}
use Rattle.make_ro.specs.ReadOnly.{make_ro_of}
use Rattle.make_ro.proofs.Nice.{make_ro_nice}
use Rattle.every_call.specs.Ty.{meet_call, isa_call, walk_call, join_call, is_final_call, make_ro_call}
use Rattle.every_call.specs.Run.{Call, kind, get_bool, get_int, make_int, get_float, make_float, get_tuple, get_str, get_struct, make_ary_is, make_struct_fref, get_mem_ptr, get_mem, meet, meet_list, isa, join, dual, glb, lub, is_final, make_ro, make_init, make_zero, non_zero, is_high_is, is_high_or_constant_is, is_constant_is, is_fref_is, log_size_is, int_min, int_max, int_value_is, int_mask, float_sz, float_is_f32, float_value, float_reading_is, struct_name, struct_fields, find, find_alias, is_ary_is, offset, offsets, ary_base_is, ary_scale_is, save, run, typed}
use Rattle.every_call.proofs.Parts.{one_part, two_parts}
use Rattle.every_call.proofs.MeetList.{meet_list_keeps}
use Rattle.every_call.proofs.NonZero.{non_zero_keeps}

-- the meet of two types of good used words adds entries, and its answer is a type at most 32 deep, new where anything was added
pub meet_answers : (u : List ℕ) (a b : ℕ) → Good u → types_rows (a ∷ b ∷ []) u ≡ 0 → Answers u 33 1 11 (meet_of u a b)
meet_answers u a b g q =
    let p = two_parts a b u g q in
    meet_nice (suc (max a b)) u a b 33 g (part_below (suc (max a b)) (omega arith) p.0) (part_below (suc (max a b)) (omega arith) p.1)

pub meet_keeps : (a b : ℕ) (ws : List ℕ) → well_formed ws ≡ true → Keeps ws (meet_call a b ws)
meet_keeps a b ws ok = call_keeps (types_rows (a ∷ b ∷ [])) (λ u. meet_of u a b) ws ok (λ s q. (meet_answers (used_words ws) a b (well_good ws ok) q).adds)

pub isa_keeps : (a b : ℕ) (ws : List ℕ) → well_formed ws ≡ true → Keeps ws (isa_call a b ws)
isa_keeps a b = ask_keeps (types_rows (a ∷ b ∷ [])) (λ u. flag (isa_of u a b))

-- dual, glb and lub
pub walk_keeps : (w : Walk) (a : ℕ) (ws : List ℕ) → well_formed ws ≡ true → Keeps ws (walk_call w a ws)
walk_keeps w a ws ok =
    let u = used_words ws in
    let g = well_good ws ok in
    call_keeps (types_rows (a ∷ [])) (λ v. walk_of w v a) ws ok (λ s q. ((walk_nice w (suc a)).types u a 33 g (part_below (suc a) (omega arith) (one_part a u g q))).adds)

pub join_keeps : (a b : ℕ) (ws : List ℕ) → well_formed ws ≡ true → Keeps ws (join_call a b ws)
join_keeps a b ws ok =
    let u = used_words ws in
    let g = well_good ws ok in
    call_keeps (types_rows (a ∷ b ∷ [])) (λ v. join_of v a b) ws ok (λ s q. let p = two_parts a b u g q in join_adds u a b g p.0 p.1)

pub is_final_keeps : (a : ℕ) (ws : List ℕ) → well_formed ws ≡ true → Keeps ws (is_final_call a ws)
is_final_keeps a = ask_keeps (types_rows (a ∷ [])) (λ u. flag (is_final_of u a))

pub make_ro_keeps : (a : ℕ) (ws : List ℕ) → well_formed ws ≡ true → Keeps ws (make_ro_call a ws)
make_ro_keeps a ws ok =
    let u = used_words ws in
    let g = well_good ws ok in
    call_keeps (types_rows (a ∷ [])) (λ v. make_ro_of v a) ws ok (λ s q. ((make_ro_nice (suc a)).types u a 33 g (part_below (suc a) (omega arith) (one_part a u g q))).adds)

-- ---- every call

word_small : (n : ℕ) → ltb n (2 ^ 64) ≡ true → n < 2 ^ 64
word_small n k = ltb-true n (2 ^ 64) k

each_small : (bs : List ℕ) → all (λ b. ltb b 256) bs ≡ true → (i : ℕ) → get_or bs i 0 < 256
unfolding all
each_small [] e i = omega arith
each_small (b ∷ bs) e zero = ltb-true b 256 (and_left (ltb b 256) (all (λ c. ltb c 256) bs) e)
each_small (b ∷ bs) e (suc i) = each_small bs (and_right (ltb b 256) (all (λ c. ltb c 256) bs) e) i

pub run_keeps : (c : Call) → typed c ≡ true → (ws : List ℕ) → well_formed ws ≡ true → Keeps ws (run c ws)
run_keeps (kind h) k = ask_keeps _ _
run_keeps (get_bool value) k = ask_keeps _ _
run_keeps (get_int value) k = int_keeps value value (word_small value k) (word_small value k)
run_keeps (make_int min max) k = int_keeps min max (word_small min (and_left (ltb min (2 ^ 64)) (ltb max (2 ^ 64)) k)) (word_small max (and_right (ltb min (2 ^ 64)) (ltb max (2 ^ 64)) k))
run_keeps (get_float bits) k = float_keeps 0 bits
run_keeps (make_float sz bits) k = float_keeps sz bits
run_keeps (get_tuple types) k = tuple_keeps types
run_keeps (get_str name) k = str_keeps name (each_small name k)
run_keeps (get_struct name fs) k = struct_keeps name fs
run_keeps (make_ary_is len lenAlias body bodyAlias text) k = ary_keeps len lenAlias body bodyAlias text (each_small text k)
run_keeps (make_struct_fref name) k = fref_keeps name
run_keeps (get_mem_ptr to nil) k = pointer_keeps to nil
run_keeps (get_mem alias t) k = memory_keeps alias t
run_keeps (meet a b) k = meet_keeps _ _
run_keeps (meet_list types) k = meet_list_keeps types
run_keeps (isa a b) k = isa_keeps a b
run_keeps (join a b) k = join_keeps a b
run_keeps (dual a) k = walk_keeps Dual a
run_keeps (glb a) k = walk_keeps Glb a
run_keeps (lub a) k = walk_keeps Lub a
run_keeps (is_final a) k = is_final_keeps a
run_keeps (make_ro a) k = make_ro_keeps a
run_keeps (make_init a) k = ask_keeps _ _
run_keeps (make_zero a) k = ask_keeps _ _
run_keeps (non_zero a) k = non_zero_keeps a
run_keeps (is_high_is a) k = ask_keeps _ _
run_keeps (is_high_or_constant_is a) k = ask_keeps _ _
run_keeps (is_constant_is a) k = ask_keeps _ _
run_keeps (is_fref_is a) k = ask_keeps _ _
run_keeps (log_size_is a) k = ask_keeps _ _
run_keeps (int_min a) k = ask_keeps _ _
run_keeps (int_max a) k = ask_keeps _ _
run_keeps (int_value_is a) k = ask_keeps _ _
run_keeps (int_mask a) k = ask_keeps _ _
run_keeps (float_sz a) k = ask_keeps _ _
run_keeps (float_is_f32 a) k = ask_keeps _ _
run_keeps (float_value a) k = ask_keeps _ _
run_keeps (float_reading_is a) k = ask_keeps _ _
run_keeps (struct_name s) k = ask_keeps _ _
run_keeps (struct_fields s n) k = ask_keeps _ _
run_keeps (find s name) k = ask_keeps _ _
run_keeps (find_alias s alias) k = ask_keeps _ _
run_keeps (is_ary_is s) k = ask_keeps _ _
run_keeps (offset s i) k = ask_keeps _ _
run_keeps (offsets s n) k = ask_keeps _ _
run_keeps (ary_base_is s) k = ask_keeps _ _
run_keeps (ary_scale_is s) k = ask_keeps _ _
run_keeps (save label n) k = ask_keeps _ _
