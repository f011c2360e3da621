-- Later used words read the same where the earlier ones stood, and an entry that was made is found again. Assumes nothing.
use mathlib.Core.Path.{◌≡◌, refl, sym, ap, ◌∙◌}
use mathlib.Core.Bool.{true}
use mathlib.Core.List.{List, [], ◌∷◌, ◌++◌, append-nil, append_assoc}
use Prim.Native.Nat.{ℕ, zero, suc, ◌+◌, ◌*◌, ◌≤◌, ◌<◌}
use native.Mathlib.Omega.{arith}
use lib.ListN.{length, get_or, drop}
use lib.Seq.{drop-append-le}
use Rattle.words.specs.Kinds.{Struct}
use Rattle.words.specs.Words.{head_of, kind_of, count_of, words_after, size_of, fills}
use Rattle.words.specs.Table.{rows, entries, first_of, find_in}
use Rattle.words.specs.Ran.{HasSize}
use Rattle.words.specs.Made.{Grown, there, make}
use Rattle.std.specs.Prelude.{Option, Some, None}
use Rattle.words.proofs.Alike.{eqs_refl}
use Rattle.words.proofs.Grow.{or_else, first_append, rows_append}
use Rattle.words.proofs.Extend.{Extends, ext_length, ext_word}
use Rattle.words.proofs.Placed.{make_there, make_new}
use Rattle.words.proofs.Kept.{Appends, make_appends, entries_append}
use Rattle.wellformed.specs.Entry.{deepest}
use Rattle.words.specs.Columns.{every, word}
use Rattle.call.specs.Handles.{head_around}
use Rattle.call.specs.Adds.{Sound, Adds}
use Rattle.words.proofs.Handles.{at_row}
use Rattle.call.proofs.Sound.{start_used}
use Rattle.parts.specs.Parts.{Good, Part, All}
use Rattle.parts.proofs.Spot.{entry_head, row_sized, row_inside}
use Rattle.parts.proofs.Good.{adds_long, adds_word}
use Rattle.makers.specs.Entries.{field_count, field_types, field_words}
use Rattle.structs.specs.Remade.{fields_with, remake}
use Rattle.structs.proofs.Columns.{with_types}
use Rattle.later.specs.Later.{Later}

pub later_same : (u : List ℕ) → Later u u
later_same u = record { long = omega arith; words = λ i l h. refl; extra = []; rows = sym (append-nil (entries u)) }

pub later_then : {u v w : List ℕ} → Later u v → Later v w → Later u w
later_then {u} {v} {w} a b = record {
  long = omega (arith, a.long, b.long);
  words = λ i l h. b.words i l (omega (arith, a.long)) ∙ a.words i l h;
  extra = a.extra ++ b.extra;
  rows = b.rows ∙ rw a.rows (append_assoc (entries u) a.extra b.extra);
}

pub later_appends : {u : List ℕ} {g : Grown} → Appends u g → Later u g.words
later_appends {u} {g} a = record {
  long = ext_length u g.words a.ext;
  words = λ i l h. ext_word u g.words a.ext i h;
  extra = a.extra;
  rows = a.rows;
}

pub later_adds : {u : List ℕ} {g : Grown} → Good u → Adds u g → Later u g.words
later_adds G a = record { long = adds_long G a; words = λ i l h. adds_word G a i h; extra = a.extra; rows = a.rows }

-- entries fill the earlier words: then whatever stands behind them, they are the first
pub later_extends : {u v : List ℕ} → 1 ≤ length u → fills 0 (drop 1 u) ≡ true → Extends u v → Later u v
unfolding entries
later_extends {u} {v} low full x = record {
  long = ext_length u v x;
  words = λ i l h. ext_word u v x i h;
  extra = rows (1 + length (drop 1 u)) 0 x.more;
  rows = rw (x.is, drop-append-le 1 u x.more low) (rows_append 1 0 (drop 1 u) x.more full);
}

-- ---- where an entry stands

pub part_inside : {u : List ℕ} → Good u → {k d low high a : ℕ} → Part u k d low high a → (1 ≤ a) × (a + size_of (word u a) ≤ length u)
part_inside {u} g {a = a} p =
    let f = at_row (entries u) a p.entry in
    let r = f.0 in
    let w : word u a ≡ get_or r.words 0 0 = ap (word u) (sym f.2) ∙ entry_head u r f.1 in
    let l : length r.words ≡ size_of (word u a) = row_sized u g.sound r f.1 ∙ ap size_of (sym w) in
    ((start_used u g.sound.low a p.entry).0, omega (arith, row_inside u g.sound r f.1, l, f.2))

pub three_words : (w k : ℕ) → kind_of w ≡ k → words_after k (count_of w) ≡ 2 → size_of w ≡ 3
unfolding size_of
three_words w k e t = rw (e, t)

-- ---- what is read

module _ {u v : List ℕ} (x : Later u v) where
  pub later_every : (s n p : ℕ) → 1 ≤ p → p + s * n < length u + s → every s n p v ≡ every s n p u
  unfolding every
  later_every s zero p l h = refl
  later_every s (suc n) p l h =
      let m : s * suc n ≡ s * n + s = omega arith in
      cc (x.words p l (omega arith), later_every s n (p + s) (omega arith) (omega arith))

  -- the words behind the head, in an entry of three
  pub later_three : Good u → {top d low high a : ℕ} → Part u top d low high a → (k : ℕ) → kind_of (word u a) ≡ k → words_after k (count_of (word u a)) ≡ 2 → (word v (a + 1) ≡ word u (a + 1)) × (word v (a + 2) ≡ word u (a + 2))
  later_three g {a = a} p k e t =
      let n = three_words (word u a) k e t in
      let i = part_inside g p in
      (x.words (a + 1) (omega arith) (omega (arith, n, i.1)), x.words (a + 2) (omega arith) (omega (arith, n, i.1)))

  pub later_deepest : Good u → (k d low high : ℕ) (hs : List ℕ) → All (Part u k d low high) hs → deepest (word v) hs ≡ deepest (word u) hs
  unfolding deepest
  later_deepest g k d low high [] a = refl
  later_deepest g k d low high (h ∷ hs) a =
      let s = start_used u g.sound.low h a.0.entry in
      let e = x.words h s.0 s.1 in
      let f = later_deepest g k d low high hs a.1 in
      rw (e, f)

  pub later_fields : (p : ℕ) (types finals : List ℕ) → 1 ≤ p → p + 3 * length types ≤ length u → fields_with v p types finals ≡ fields_with u p types finals
  unfolding fields_with
  later_fields p [] finals l h = refl
  later_fields p (t ∷ types) [] l h = refl
  later_fields p (t ∷ types) (f ∷ finals) l h =
      let a = x.words p l (omega arith) in
      let b = x.words (p + 2) (omega arith) (omega arith) in
      let r = later_fields (p + 3) types finals (omega arith) (omega arith) in
      rw (a, b, r)

-- ---- an entry that was made is found again

made_first : (u e : List ℕ) → Sound u → HasSize e → first_of (entries (make u e).words) e ≡ Some (make u e).handle
unfolding find_in first_of or_else
made_first u e s sized = go (find_in u e) refl
  where
    go : (f : Option ℕ) → find_in u e ≡ f → first_of (entries (make u e).words) e ≡ Some (make u e).handle
    go (Some h) q = rw (make_there u e h q) q
    go None q =
        let t = first_append (entries u) (record { at = length u; words = e } ∷ []) e in
        rw (make_new u e q, entries_append u e s.low s.full sized) (t ∙ rw (q, eqs_refl e))

pub make_again : {u v : List ℕ} (e : List ℕ) → Sound u → HasSize e → Later (make u e).words v → make v e ≡ there v (make u e).handle
unfolding find_in or_else
make_again {u} {v} e s sized x =
    let f : first_of (entries v) e ≡ Some (make u e).handle = rw x.rows (first_append (entries (make u e).words) x.extra e ∙ rw (made_first u e s sized)) in
    make_there v e (make u e).handle f

pub sized_of : (k d n : ℕ) (t : List ℕ) → k < 256 → d < 256 → length t ≡ words_after k n → HasSize (head_of k d n ∷ t)
unfolding size_of
sized_of k d n t a b s =
    let kk : kind_of (head_of k d n) ≡ k = omega arith in
    let nn : count_of (head_of k d n) ≡ n = omega arith in
    rw (kk, nn) (omega (arith, s))

-- an entry around some types
module _ {w : List ℕ} (g : Good w) (top d low high : ℕ) (o : 1 ≤ d) (d1 : d ≤ 32) where
  below : (hs : List ℕ) → All (Part w top d low high) hs → deepest (word w) hs < d
  unfolding deepest
  below [] a = o
  below (h ∷ hs) a = omega (arith, a.0.shallow, below hs a.1)

  pub around_sized : (k n : ℕ) (hs t : List ℕ) → All (Part w top d low high) hs → k < 256 → length t ≡ words_after k n → HasSize (head_around w k n hs ∷ t)
  around_sized k n hs t a kk s = sized_of k (1 + deepest (word w) hs) n t kk (omega (arith, below hs a)) s

  pub around_later : (k n : ℕ) (hs t : List ℕ) → All (Part w top d low high) hs → k < 256 → length t ≡ words_after k n → Later w (make w (head_around w k n hs ∷ t)).words
  around_later k n hs t a kk s = later_appends (make_appends w (head_around w k n hs ∷ t) g.sound.low g.sound.full (around_sized k n hs t a kk s))

  pub around_again : (k n : ℕ) (hs t : List ℕ) → All (Part w top d low high) hs → k < 256 → length t ≡ words_after k n → (v : List ℕ) → Later (make w (head_around w k n hs ∷ t)).words v
      → make v (head_around v k n hs ∷ t) ≡ there v (make w (head_around w k n hs ∷ t)).handle
  around_again k n hs t a kk s v x =
      let y = later_then (around_later k n hs t a kk s) x in
      let q = later_deepest y g top d low high hs a in
      rw q (make_again (head_around w k n hs ∷ t) g.sound (around_sized k n hs t a kk s) x)

  -- a struct that is made again
  pub words_long : (n p : ℕ) (fs : List ℕ) → length (field_words n p fs) ≡ 3 * n
  unfolding field_words
  words_long zero p fs = refl
  words_long (suc n) p fs = omega (arith, words_long n (p + 4) fs)

  module _ (a : ℕ) (hs finals : List ℕ) (same : length hs ≡ length finals) (parts : All (Part w top d low high) hs) (la : 1 ≤ a) (inside : a + 2 + 3 * length hs ≤ length w) where
    abbrev fs : List ℕ
    fs = fields_with w (a + 2) hs finals

    types_are : All (Part w top d low high) (field_types fs)
    types_are = rw (with_types w (a + 2) hs finals same) parts

    room : length (word w (a + 1) ∷ field_words (field_count fs) 0 fs) ≡ words_after Struct (field_count fs)
    unfolding words_after
    room = omega (arith, words_long (field_count fs) 0 fs)

    pub remake_later : Later w (remake a hs finals w).words
    unfolding remake
    remake_later = around_later Struct (field_count fs) (field_types fs) (word w (a + 1) ∷ field_words (field_count fs) 0 fs) types_are (omega arith) room

    pub remake_again : (v : List ℕ) → Later (remake a hs finals w).words v → remake a hs finals v ≡ there v (remake a hs finals w).handle
    unfolding remake
    remake_again v x =
        let y = later_then remake_later x in
        let n = y.words (a + 1) (omega arith) (omega arith) in
        let f = later_fields y (a + 2) hs finals (omega arith) inside in
        rw (n, f) (around_again Struct (field_count fs) (field_types fs) (word w (a + 1) ∷ field_words (field_count fs) 0 fs) types_are (omega arith) room v x)
