-- What the functions of row 1 give on the way: the depth of the deepest part, where all parts are right.
use Rattle.std.specs.Prelude.{◌≡◌, Bool, true, false, cond, ◌&&◌, ◌||◌, Option, Some, None, List, ℕ, ◌+◌, ◌*◌, ◌≤◌, ◌<◌, max, length, take, drop, get_or, eqb}
use Rattle.std.proofs.Math.Seq.{slice}
use Rattle.words.specs.Words.{size_of, fills, kind_of, depth_of}
use Rattle.words.specs.Table.{rows, entries, is_at, starts}
use Rattle.bitset.specs.Bitset.{word_bits, bit_at}
use Rattle.wellformed.specs.Entry.{kind_at, is_name, is_type, is_alias_final, all, deepest, most_counted}
use Rattle.words.specs.Columns.{struct_size, names_from, types_from, flags_from}
use Rattle.wellformed.specs.Form.{ok_rows, ok_entries, well_formed, used_words}

-- the depth in a head, if its kind is one that p takes
unfoldable pub head_depth : (ℕ → Bool) → ℕ → Option ℕ
head_depth p head = cond (p (kind_of head)) (Some (depth_of head)) None

-- the depth of the earlier entry at h, if its kind is one that p takes
abbrev pub part_depth : (ℕ → ℕ) → (ℕ → Bool) → ℕ → Option ℕ
part_depth heads p h = head_depth p (heads h)

-- the depth in the head of a field's type, if its name's head is a name's, its flags are ones that the maker takes, and the type's head is a type's
unfoldable pub field_depth : ℕ → ℕ → ℕ → Option ℕ
field_depth name flags type = cond (is_name (kind_of name) && is_alias_final flags) (head_depth is_type type) None

-- the depth of the deepest, from d on, if all are types
unfoldable pub parts_depth : (ℕ → ℕ) → ℕ → List ℕ → Option ℕ
parts_depth heads d hs = cond (all (kind_at heads is_type) hs) (Some (max d (deepest heads hs))) None

-- the same of the types of n fields, of which the first stands at p
unfoldable pub fields_depth : (ℕ → ℕ) → ℕ → ℕ → ℕ → List ℕ → Option ℕ
fields_depth heads d n p e =
    cond (all (kind_at heads is_name) (names_from n p e) && all is_alias_final (flags_from n p e)) (parts_depth heads d (types_from n p e)) None

-- a depth is one more than that of the deepest part
unfoldable pub one_over : ℕ → Option ℕ → Bool
one_over d (Some x) = eqb d (1 + x)
one_over d None = false

-- the bits are enough for the words, and mark nothing past them
pub record Marks (ws bits : List ℕ) : Type 0 where
  pub room : length ws ≤ word_bits * length bits
  pub inside : (h : ℕ) → bit_at bits h ≡ true → h < length ws

-- what is known at a position between two entries: the bits are the starts before it, and the answer is the answer on what is left
pub record Passed (ws : List ℕ) (used : ℕ) (bits : List ℕ) (at : ℕ) : Type 0 where
  pub within : at ≤ used
  pub marks : (h : ℕ) → bit_at bits h ≡ true → h < used
  pub seen : (h : ℕ) → is_at (entries (take used ws)) h ≡ (bit_at bits h || is_at (rows at 0 (slice at used ws)) h)
  pub left : ok_entries ws used ≡ (fills 0 (slice at used ws) && ok_rows ws (bit_at bits) (rows at 0 (slice at used ws)))

-- a part of the used words, from position `base` on
pub record Window (ws : List ℕ) (used base : ℕ) (window : List ℕ) : Type 0 where
  pub part : window ≡ take (length window) (drop base ws)
  pub inside : base + length window ≤ used

-- the words of the largest entry, a struct of 255 fields
abbrev pub largest_entry : ℕ
largest_entry = struct_size most_counted

-- r is how far the entries of a window of m words are right: at its end, or before one that runs past it
unfoldable pub Going : List ℕ → ℕ → List ℕ → ℕ → ℕ → Option ℕ → Type 0
Going ws used bits' base m (Some i) = (Passed ws used bits' (base + i)) × (i ≤ m) × (i < m → m < i + size_of (get_or ws (base + i) 0))
Going ws used bits' base m None = ok_entries ws used ≡ false

-- r is whether the entries are right, and if they are, the bits mark where they start
pub record Scanned (ws : List ℕ) (used : ℕ) (bits' : List ℕ) (r : Bool) : Type 0 where
  pub is : r ≡ ok_entries ws used
  pub marks : r ≡ true → bit_at bits' ≡ starts (take used ws)

-- the same for a whole store
pub record Verified (ws bits' : List ℕ) (r : Bool) : Type 0 where
  pub is : r ≡ well_formed ws
  pub marks : r ≡ true → bit_at bits' ≡ starts (used_words ws)
