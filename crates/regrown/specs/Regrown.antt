-- Document 02, Slip 3: "It takes just the files that the writer makes from stores grown by calls." The stores grown by calls are the well-formed ones without two equal entries (`GrownExactly`): that each
-- of these is grown by calls, of makers alone, is `Regrown`; and the loader takes just their files (`TakesJust`). proofs/Regrown.antt proves all three.
use Rattle.std.specs.Prelude.{◌≡◌, Bool, true, false, ◌&&◌, ◌↔◌, List, [], ◌∷◌, ℕ, ◌≤◌, length}
use Rattle.words.specs.Table.{entries, Own}
use Rattle.wellformed.specs.Form.{right_length, well_formed, used_count, used_words}
use Rattle.call.specs.Call.{number}
use Rattle.makers.specs.Makers.{fresh_store, fresh_call}
use Rattle.every_call.specs.Run.{Call, kind, get_bool, get_int, make_int, get_float, make_float, get_tuple, get_str, get_struct, make_ary_is, make_struct_fref, get_mem_ptr, get_mem, meet, meet_list, isa, join, dual, glb, lub, is_final, make_ro, make_init, make_zero, non_zero, is_high_is, is_high_or_constant_is, is_constant_is, is_fref_is, log_size_is, int_min, int_max, int_value_is, int_mask, float_sz, float_is_f32, float_value, float_reading_is, struct_name, struct_fields, find, find_alias, is_ary_is, offset, offsets, ary_base_is, ary_scale_is, save, run, all_typed}
use Rattle.catalogue_file.specs.File.{longest_label, file_of}
use Rattle.catalogue.specs.Catalogue.{load_call}
use Rattle.loaded.specs.Loaded.{AreWords, AreBytes}
use Rattle.demand3.specs.Demand3.{leaves}

-- a call of a maker of one entry, one for each kind of entry that a call can append; `get_int` and `get_float` are cases of `make_int` and `make_float`, and `make_ary_is` makes up to four entries
abbrev pub is_maker : Call → Bool
is_maker (kind h) = false
is_maker (get_bool value) = false
is_maker (get_int value) = false
is_maker (make_int min max) = true
is_maker (get_float bits) = false
is_maker (make_float sz bits) = true
is_maker (get_tuple types) = true
is_maker (get_str name) = true
is_maker (get_struct name fs) = true
is_maker (make_ary_is len lenAlias body bodyAlias text) = false
is_maker (make_struct_fref name) = true
is_maker (get_mem_ptr to nil) = true
is_maker (get_mem alias t) = true
is_maker (meet a b) = false
is_maker (meet_list types) = false
is_maker (isa a b) = false
is_maker (join a b) = false
is_maker (dual a) = false
is_maker (glb a) = false
is_maker (lub a) = false
is_maker (is_final a) = false
is_maker (make_ro a) = false
is_maker (make_init a) = false
is_maker (make_zero a) = false
is_maker (non_zero a) = false
is_maker (is_high_is a) = false
is_maker (is_high_or_constant_is a) = false
is_maker (is_constant_is a) = false
is_maker (is_fref_is a) = false
is_maker (log_size_is a) = false
is_maker (int_min a) = false
is_maker (int_max a) = false
is_maker (int_value_is a) = false
is_maker (int_mask a) = false
is_maker (float_sz a) = false
is_maker (float_is_f32 a) = false
is_maker (float_value a) = false
is_maker (float_reading_is a) = false
is_maker (struct_name s) = false
is_maker (struct_fields s n) = false
is_maker (find s name) = false
is_maker (find_alias s alias) = false
is_maker (is_ary_is s) = false
is_maker (offset s i) = false
is_maker (offsets s n) = false
is_maker (ary_base_is s) = false
is_maker (ary_scale_is s) = false
is_maker (save label n) = false

-- so of every call of a list
unfoldable pub all_makers : List Call → Bool
all_makers [] = true
all_makers (c ∷ cs) = is_maker c && all_makers cs

-- ws is what a list of calls leaves of the store vs: calls of makers alone, in which the ends of an Int are 64-bit words and a text is bytes
abbrev pub Grows : List ℕ → List ℕ → Type 0
Grows vs ws = (cs : List Call) × (all_typed cs ≡ true) × (all_makers cs ≡ true) × (leaves run cs vs ≡ ws)

-- every well-formed list of 64-bit words without two equal entries is a store that calls of makers grow from a fresh store of the same length
abbrev pub Regrown : Type 0
Regrown = (ws : List ℕ) → AreWords ws → well_formed ws ≡ true → Own (entries (used_words ws)) → Grows (fresh_store (length ws)) ws

-- the same from the call that writes a fresh store into any lent list of that length
abbrev pub RegrownFrom : Type 0
RegrownFrom = (ws vs : List ℕ) → length vs ≡ length ws → AreWords ws → well_formed ws ≡ true → Own (entries (used_words ws)) → Grows (fresh_call vs).words ws

-- ws is a store grown by calls, any calls: "The list starts from a fresh store of any length row 1 allows"
abbrev pub GrownByCalls : List ℕ → Type 0
GrownByCalls ws = (vs : List ℕ) × (right_length vs ≡ true) × (cs : List Call) × (all_typed cs ≡ true) × (leaves run cs (fresh_call vs).words ≡ ws)

-- "just": of the lists of 64-bit words, the stores grown by calls are the well-formed ones without two equal entries, and no others
abbrev pub GrownExactly : Type 0
GrownExactly = (ws : List ℕ) → AreWords ws → GrownByCalls ws ↔ ((well_formed ws ≡ true) × Own (entries (used_words ws)))

-- f is a file "that the writer makes from stores grown by calls": from one whose used words a list of n words has room for
abbrev pub WrittenFromGrown : List ℕ → ℕ → Type 0
WrittenFromGrown f n = (vs label : List ℕ) × AreWords vs × GrownByCalls vs × (length label ≤ longest_label) × (used_count vs ≤ n) × (f ≡ file_of label (used_words vs))

-- the loader "takes just the files that the writer makes from stores grown by calls": of all files, into a list of any length that row 1 allows
abbrev pub TakesJust : Type 0
TakesJust = (f ws : List ℕ) → AreBytes f → right_length ws ≡ true → ((l : ℕ) × ((load_call f ws).reply ≡ number l)) ↔ WrittenFromGrown f (length ws)
