-- Every call that is here and takes a store, as a value, and what it answers and leaves: the definitions that its sentences are, one line a call. The contracts of
-- the functions cite `run`, and demand 3 speaks of lists of these calls.
use Rattle.std.specs.Prelude.{Bool, true, ◌&&◌, List, [], ◌∷◌, ℕ, ◌^◌, ltb}
use Rattle.wellformed.specs.Entry.{all}
use Rattle.call.specs.Call.{Outcome}
use Rattle.makers.specs.Makers.{kind_call, get_bool_call, get_int_call, make_int_call, get_float_call, make_float_call, get_tuple_call, get_str_call, get_struct_call, make_ary_call, make_struct_fref_call, get_mem_ptr_call, get_mem_call}
use Rattle.catalogue.specs.Catalogue.{save_call}
use Rattle.every_call.specs.Ty.{meet_call, isa_call, join_call, dual_call, glb_call, lub_call, is_final_call, make_ro_call}
use Rattle.every_call.specs.MeetList.{meet_list_call}
use Rattle.every_call.specs.Others.{make_init_call, make_zero_call, non_zero_call, is_high_call, is_high_or_constant_call, is_constant_call, is_fref_call, log_size_call, int_min_call, int_max_call, int_value_call, int_mask_call, float_sz_call, float_is_f32_call, float_value_call, float_reading_call, struct_name_call, struct_fields_call, find_call, find_alias_call, is_ary_call, offset_call, offsets_call, ary_base_call, ary_scale_call}

-- "with any arguments": any numbers and lists at all. `kind` stands for the Rust's casts. A call that fills a lent output has the
-- output's length beside it. The names are the functions'; eleven have _is behind, since there are definitions of those names.
pub data Call : Type 0 where
  kind : ℕ → Call
  get_bool : ℕ → Call
  get_int : ℕ → Call
  make_int : ℕ → ℕ → Call
  get_float : ℕ → Call
  make_float : ℕ → ℕ → Call
  get_tuple : List ℕ → Call
  get_str : List ℕ → Call
  get_struct : ℕ → List ℕ → Call
  make_ary_is : ℕ → ℕ → ℕ → ℕ → List ℕ → Call
  make_struct_fref : ℕ → Call
  get_mem_ptr : ℕ → ℕ → Call
  get_mem : ℕ → ℕ → Call
  meet : ℕ → ℕ → Call
  meet_list : List ℕ → Call
  isa : ℕ → ℕ → Call
  join : ℕ → ℕ → Call
  dual : ℕ → Call
  glb : ℕ → Call
  lub : ℕ → Call
  is_final : ℕ → Call
  make_ro : ℕ → Call
  make_init : ℕ → Call
  make_zero : ℕ → Call
  non_zero : ℕ → Call
  is_high_is : ℕ → Call
  is_high_or_constant_is : ℕ → Call
  is_constant_is : ℕ → Call
  is_fref_is : ℕ → Call
  log_size_is : ℕ → Call
  int_min : ℕ → Call
  int_max : ℕ → Call
  int_value_is : ℕ → Call
  int_mask : ℕ → Call
  float_sz : ℕ → Call
  float_is_f32 : ℕ → Call
  float_value : ℕ → Call
  float_reading_is : ℕ → Call
  struct_name : ℕ → Call
  struct_fields : ℕ → ℕ → Call
  find : ℕ → ℕ → Call
  find_alias : ℕ → ℕ → Call
  is_ary_is : ℕ → Call
  offset : ℕ → ℕ → Call
  offsets : ℕ → ℕ → Call
  ary_base_is : ℕ → Call
  ary_scale_is : ℕ → Call
  -- document 02, Slip 3: the writer, with a label, for an output of so many bytes
  save : List ℕ → ℕ → Call

-- what a call answers and leaves of the words; for meet what `merge` says, so that the laws of demand 3 can be asked of another meet too
abbrev pub run_with : (ℕ → ℕ → List ℕ → Outcome) → Call → List ℕ → Outcome
run_with merge (kind h) = kind_call h
run_with merge (get_bool value) = get_bool_call value
run_with merge (get_int value) = get_int_call value
run_with merge (make_int min max) = make_int_call min max
run_with merge (get_float bits) = get_float_call bits
run_with merge (make_float sz bits) = make_float_call sz bits
run_with merge (get_tuple types) = get_tuple_call types
run_with merge (get_str name) = get_str_call name
run_with merge (get_struct name fs) = get_struct_call name fs
run_with merge (make_ary_is len lenAlias body bodyAlias text) = make_ary_call len lenAlias body bodyAlias text
run_with merge (make_struct_fref name) = make_struct_fref_call name
run_with merge (get_mem_ptr to nil) = get_mem_ptr_call to nil
run_with merge (get_mem alias t) = get_mem_call alias t
run_with merge (meet a b) = merge a b
run_with merge (meet_list types) = meet_list_call types
run_with merge (isa a b) = isa_call a b
run_with merge (join a b) = join_call a b
run_with merge (dual a) = dual_call a
run_with merge (glb a) = glb_call a
run_with merge (lub a) = lub_call a
run_with merge (is_final a) = is_final_call a
run_with merge (make_ro a) = make_ro_call a
run_with merge (make_init a) = make_init_call a
run_with merge (make_zero a) = make_zero_call a
run_with merge (non_zero a) = non_zero_call a
run_with merge (is_high_is a) = is_high_call a
run_with merge (is_high_or_constant_is a) = is_high_or_constant_call a
run_with merge (is_constant_is a) = is_constant_call a
run_with merge (is_fref_is a) = is_fref_call a
run_with merge (log_size_is a) = log_size_call a
run_with merge (int_min a) = int_min_call a
run_with merge (int_max a) = int_max_call a
run_with merge (int_value_is a) = int_value_call a
run_with merge (int_mask a) = int_mask_call a
run_with merge (float_sz a) = float_sz_call a
run_with merge (float_is_f32 a) = float_is_f32_call a
run_with merge (float_value a) = float_value_call a
run_with merge (float_reading_is a) = float_reading_call a
run_with merge (struct_name s) = struct_name_call s
run_with merge (struct_fields s n) = struct_fields_call s n
run_with merge (find s name) = find_call s name
run_with merge (find_alias s alias) = find_alias_call s alias
run_with merge (is_ary_is s) = is_ary_call s
run_with merge (offset s i) = offset_call s i
run_with merge (offsets s n) = offsets_call s n
run_with merge (ary_base_is s) = ary_base_call s
run_with merge (ary_scale_is s) = ary_scale_call s
run_with merge (save label n) = save_call label n

-- "The laws are to be laws of demand 2's meet" ("The buyer's note"): the meet is the one that the contract of `ty::meet` cites
abbrev pub run : Call → List ℕ → Outcome
run = run_with meet_call

-- ---- what the types of the arguments say, where it is needed

-- a 64-bit word, for the ends of an Int: two's complement says nothing of a larger number
abbrev pub is_word : ℕ → Bool
is_word n = ltb n (2 ^ 64)

-- "Only `get_str` and `make_ary` take bytes", and, with document 02, the writer, whose label is
abbrev pub are_bytes : List ℕ → Bool
are_bytes = all (λ b. ltb b 256)

-- the ends of an Int are words, and the elements of a text and of a label are bytes; all other numbers are any at all
abbrev pub typed : Call → Bool
typed (kind h) = true
typed (get_bool value) = true
typed (get_int value) = is_word value
typed (make_int min max) = is_word min && is_word max
typed (get_float bits) = true
typed (make_float sz bits) = true
typed (get_tuple types) = true
typed (get_str name) = are_bytes name
typed (get_struct name fs) = true
typed (make_ary_is len lenAlias body bodyAlias text) = are_bytes text
typed (make_struct_fref name) = true
typed (get_mem_ptr to nil) = true
typed (get_mem alias t) = true
typed (meet a b) = true
typed (meet_list types) = true
typed (isa a b) = true
typed (join a b) = true
typed (dual a) = true
typed (glb a) = true
typed (lub a) = true
typed (is_final a) = true
typed (make_ro a) = true
typed (make_init a) = true
typed (make_zero a) = true
typed (non_zero a) = true
typed (is_high_is a) = true
typed (is_high_or_constant_is a) = true
typed (is_constant_is a) = true
typed (is_fref_is a) = true
typed (log_size_is a) = true
typed (int_min a) = true
typed (int_max a) = true
typed (int_value_is a) = true
typed (int_mask a) = true
typed (float_sz a) = true
typed (float_is_f32 a) = true
typed (float_value a) = true
typed (float_reading_is a) = true
typed (struct_name s) = true
typed (struct_fields s n) = true
typed (find s name) = true
typed (find_alias s alias) = true
typed (is_ary_is s) = true
typed (offset s i) = true
typed (offsets s n) = true
typed (ary_base_is s) = true
typed (ary_scale_is s) = true
typed (save label n) = are_bytes label

-- so of every call of a list
unfoldable pub all_typed : List Call → Bool
all_typed [] = true
all_typed (c ∷ cs) = typed c && all_typed cs
