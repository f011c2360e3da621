-- Good used words stay good while entries are added, with all their parts; the fresh types are among them. Assumes nothing.
use mathlib.Core.Path.{◌≡◌, refl, sym, ap, ◌∙◌}
use mathlib.Core.Bool.{true}
use mathlib.Core.Logic.{◌⊎◌, inl, inr, ⊎_elim}
use mathlib.Core.List.{List, [], ◌∷◌, ◌++◌}
use Prim.Native.Nat.{ℕ, ◌+◌, ◌-◌, ◌≤◌, ◌<◌}
use native.Mathlib.Omega.{arith}
use lib.ListN.{length, take, drop, get_or, length-append, length-take, length-drop, take-append-drop, get_or-append}
use lib.Seq.{get_or-take, get_or-drop, take-append-le, drop-append-le}
use Rattle.words.specs.Words.{words_after, size_of, fills, kind_of, depth_of}
use Rattle.words.specs.Table.{Row, rows, entries, starts, is_at, find_in}
use Rattle.std.specs.Prelude.{Option, Some, None}
use Rattle.words.specs.Made.{Grown, make}
use Rattle.words.specs.Ran.{Segments}
use Rattle.words.proofs.Alike.{eqs_eq}
use Rattle.words.proofs.Grow.{rows_append, found_in}
use Rattle.words.proofs.Placed.{make_there, make_new as made-new}
use Rattle.words.proofs.Kept.{make_in}
use Rattle.words.proofs.Walk.{take_slice}
use Rattle.wellformed.specs.Entry.{kind, depth, types_in}
use Rattle.wellformed.specs.Fresh.{fresh_words}
use Rattle.wellformed.specs.Form.{well_formed, used_words}
use Rattle.wellformed.proofs.Before.{tests}
use Rattle.words.specs.Columns.{word, kind_on}
use Rattle.call.specs.Adds.{Fitting, Adds}
use Rattle.call.proofs.Sound.{make_adds, adds_none, adds_then, in_used, start_used}
use Rattle.call.proofs.Keep.{well_sound}
use Rattle.parts.specs.Parts.{Good, Part, NameAt, All, Ready, ReadyOne}
use Rattle.words.proofs.Handles.{at_more, row_starts}
use Rattle.parts.proofs.Spot.{entry_head}
use Rattle.parts.proofs.Parts.{types_earlier, flat}

-- row 1 has passed them
pub well_good : (ws : List ℕ) → well_formed ws ≡ true → Good (used_words ws)
well_good ws ok =
    let t = tests ws ok in
    record { sound = well_sound ws ok; fresh = take_slice 1 93 (get_or ws 0 0) ws (omega (arith, t.enough)) ∙ eqs_eq _ _ t.fresh }

pub good_long : {u : List ℕ} → Good u → 94 ≤ length u
unfolding fresh_words
good_long {u} g = omega (arith, ap length g.fresh, length-take 93 (drop 1 u), length-drop 1 u)

-- ---- the fresh types

fresh_split : {u : List ℕ} → Good u → drop 1 u ≡ fresh_words ++ drop 93 (drop 1 u)
fresh_split {u} g = sym (take-append-drop 93 (drop 1 u)) ∙ ap (λ (l : List ℕ). l ++ drop 93 (drop 1 u)) g.fresh

fresh_filled : fills 0 fresh_words ≡ true
unfolding fills size_of words_after fresh_words
fresh_filled = refl

module _ {u : List ℕ} (g : Good u) (h : ℕ) where
  fresh_starts : is_at (rows 1 0 fresh_words) h ≡ true → starts u h ≡ true
  unfolding entries
  fresh_starts is =
      let rest = drop 93 (drop 1 u) in
      rw (fresh_split g, rows_append 1 0 fresh_words rest fresh_filled) (at_more (rows 1 0 fresh_words) (rows (1 + length fresh_words) 0 rest) h is)

  pub fresh_word : 1 ≤ h → h ≤ 93 → word u h ≡ get_or fresh_words (h - 1) 0
  fresh_word low high =
      let q : 1 + (h - 1) ≡ h = omega arith in
      let l : h - 1 < 93 = omega arith in
      ap (λ (i : ℕ). get_or u i 0) (sym q) ∙ sym (get_or-drop 1 u (h - 1) 0) ∙ sym (get_or-take 93 (drop 1 u) (h - 1) 0 l) ∙ ap (λ (l : List ℕ). get_or l (h - 1) 0) g.fresh

  -- the entry at h of the fresh store, whose head is w
  fresh_part : (d low high w : ℕ) → is_at (rows 1 0 fresh_words) h ≡ true → 1 ≤ h → h ≤ 93 → get_or fresh_words (h - 1) 0 ≡ w → low ≤ kind_of w → kind_of w ≤ high → depth_of w < d → Part u 94 d low high h
  fresh_part d low high w is l m q a b c =
      let e : word u h ≡ w = fresh_word l m ∙ q in
      record { entry = fresh_starts is; earlier = omega arith; least = rw e a; most = rw e b; shallow = rw e c }

module _ {u : List ℕ} (g : Good u) (d : ℕ) (some : 1 < d) where
  pub bot_part : Part u 94 d 1 11 5
  unfolding rows is_at size_of words_after fresh_words
  bot_part = fresh_part g 5 d 1 11 257 refl (omega arith) (omega arith) refl (omega arith) (omega arith) (omega arith)

  pub top_part : Part u 94 d 1 11 6
  unfolding rows is_at size_of words_after fresh_words
  top_part = fresh_part g 6 d 1 11 258 refl (omega arith) (omega arith) refl (omega arith) (omega arith) (omega arith)

  pub ctrl_part : Part u 94 d 1 11 7
  unfolding rows is_at size_of words_after fresh_words
  ctrl_part = fresh_part g 7 d 1 11 259 refl (omega arith) (omega arith) refl (omega arith) (omega arith) (omega arith)

  pub xctrl_part : Part u 94 d 1 11 8
  unfolding rows is_at size_of words_after fresh_words
  xctrl_part = fresh_part g 8 d 1 11 260 refl (omega arith) (omega arith) refl (omega arith) (omega arith) (omega arith)

  pub struct_top_part : Part u 94 d 8 9 18
  unfolding rows is_at size_of words_after fresh_words
  struct_top_part = fresh_part g 18 d 8 9 264 refl (omega arith) (omega arith) refl (omega arith) (omega arith) (omega arith)

  pub int_top_part : Part u 94 d 1 11 22
  unfolding rows is_at size_of words_after fresh_words
  int_top_part = fresh_part g 22 d 1 11 261 refl (omega arith) (omega arith) refl (omega arith) (omega arith) (omega arith)

  pub int_bot_part : Part u 94 d 1 11 25
  unfolding rows is_at size_of words_after fresh_words
  int_bot_part = fresh_part g 25 d 1 11 261 refl (omega arith) (omega arith) refl (omega arith) (omega arith) (omega arith)

  pub float_top_part : Part u 94 d 1 11 49
  unfolding rows is_at size_of words_after fresh_words
  float_top_part = fresh_part g 49 d 1 11 262 refl (omega arith) (omega arith) refl (omega arith) (omega arith) (omega arith)

  pub struct_bot_part : Part u 94 d 8 9 20
  unfolding rows is_at size_of words_after fresh_words
  struct_bot_part = fresh_part g 20 d 8 9 264 refl (omega arith) (omega arith) refl (omega arith) (omega arith) (omega arith)

  pub float_b32_part : Part u 94 d 1 11 58
  unfolding rows is_at size_of words_after fresh_words
  float_b32_part = fresh_part g 58 d 1 11 262 refl (omega arith) (omega arith) refl (omega arith) (omega arith) (omega arith)

  pub float_bot_part : Part u 94 d 1 11 61
  unfolding rows is_at size_of words_after fresh_words
  float_bot_part = fresh_part g 61 d 1 11 262 refl (omega arith) (omega arith) refl (omega arith) (omega arith) (omega arith)

-- ---- handles that a call takes

pub handle_part : {u : List ℕ} (h : ℕ) → Good u → starts u h ≡ true → 1 ≤ kind_on u h → kind_on u h ≤ 11 → Part u (length u) 33 1 11 h
handle_part {u} h g is low high =
    let l = (start_used u g.sound.low h is).1 in
    let p : Part u (length u) 256 1 11 h = record { entry = is; earlier = l; least = low; most = high; shallow = omega arith } in
    record { entry = is; earlier = l; least = low; most = high; shallow = omega (arith, flat g.sound p) }

-- ---- growth

pub part_weak : {u : List ℕ} {k d low high h : ℕ} (k' d' : ℕ) → k ≤ k' → d ≤ d' → Part u k d low high h → Part u k' d' low high h
part_weak k' d' a b p = record { entry = p.entry; earlier = omega (arith, p.earlier); least = p.least; most = p.most; shallow = omega (arith, p.shallow) }

pub part_below : {u : List ℕ} {k d low high h : ℕ} (top : ℕ) → h < top → Part u k d low high h → Part u top d low high h
part_below top l p = record { entry = p.entry; earlier = l; least = p.least; most = p.most; shallow = p.shallow }

-- a part stands before the end of the used words
pub part_used : {u : List ℕ} {k d low high h : ℕ} → Good u → Part u k d low high h → h < length u
part_used {u} {h = h} g p = (start_used u g.sound.low h p.entry).1

module _ {u : List ℕ} {g : Grown} (good : Good u) (a : Adds u g) where
  pub adds_long : length u ≤ length g.words
  adds_long = omega (arith, ap length a.is, length-append u a.more)

  pub good_adds : Good g.words
  good_adds =
      let n = good_long good in
      let l : 93 ≤ length (drop 1 u) = omega (arith, length-drop 1 u) in
      record { sound = a.sound; fresh = rw (a.is, drop-append-le 1 u a.more (omega arith), take-append-le 93 (drop 1 u) a.more l) good.fresh }

  adds_starts : (h : ℕ) → starts u h ≡ true → starts g.words h ≡ true
  adds_starts h e = rw a.rows (at_more (entries u) a.extra h e)

  pub adds_word : (i : ℕ) → i < length u → word g.words i ≡ word u i
  adds_word i l = rw a.is (get_or-append u a.more 0 i l)

  adds_head : (h : ℕ) → starts u h ≡ true → word g.words h ≡ word u h
  adds_head h e = adds_word h (start_used u good.sound.low h e).1

  pub part_adds : {k d low high h : ℕ} → Part u k d low high h → Part g.words k d low high h
  part_adds {h = h} p =
      let e = adds_head h p.entry in
      record { entry = adds_starts h p.entry; earlier = p.earlier; least = rw e p.least; most = rw e p.most; shallow = rw e p.shallow }

  pub name_adds : {k h : ℕ} → NameAt u k h → NameAt g.words k h
  name_adds {h = h} p = record { entry = adds_starts h p.entry; earlier = p.earlier; kind = rw (adds_head h p.entry) p.kind }

-- ---- an answer that grew the store is no old handle

-- nothing was appended, or the handle is past the words that were used
abbrev pub New : List ℕ → Grown → Type 0
New u g = (g.words ≡ u) ⊎ (length u ≤ g.handle)

abbrev pub Any : (ℕ → Type 0) → List ℕ → Type 0
Any P [] = ⊥
Any P (x ∷ xs) = P x ⊎ Any P xs

-- the words w grew from u only where one of some parts is new
abbrev pub Late : List ℕ → List ℕ → List ℕ → Type 0
Late u w hs = (w ≡ u) ⊎ Any (λ p. length u ≤ p) hs

any_below : (n top : ℕ) (hs : List ℕ) → All (λ h. h < top) hs → Any (λ p. n ≤ p) hs → n ≤ top
any_below n top [] a y = absurd y
any_below n top (h ∷ hs) a y = ⊎_elim (λ (l : n ≤ h). omega (arith, a.0)) (λ z. any_below n top hs a.1 z) y

make_new : (u e : List ℕ) → New u (make u e)
make_new u e = go (find_in u e) refl
  where
    go : (f : Option ℕ) → find_in u e ≡ f → New u (make u e)
    go (Some h) q = rw (make_there u e h q) (inl refl)
    go None q = rw (made-new u e q) (inr (omega arith))

-- an entry with a new part is new
make_late : (n : ℕ) (w e : List ℕ) → Good w → n ≤ length w → Any (λ p. n ≤ p) (types_in e) → n ≤ (make w e).handle
unfolding find_in
make_late n w e g l y = go (find_in w e) refl
  where
    go : (f : Option ℕ) → find_in w e ≡ f → n ≤ (make w e).handle
    go (Some h) q =
        let r : Row = record { at = h; words = e } in
        rw (make_there w e h q) (any_below n h (types_in e) (types_earlier w g.sound r (found_in (entries w) e h q)) y)
    go None q = rw (made-new w e q) l

pub made_late : (u w e : List ℕ) → Good w → length u ≤ length w → Late u w (types_in e) → New u (make w e)
made_late u w e g l late = ⊎_elim (λ (q : w ≡ u). from q (make_new w e)) (λ y. inr (make_late (length u) w e g l y)) late
  where
    from : w ≡ u → New w (make w e) → New u (make w e)
    from q = ⊎_elim (λ (p : (make w e).words ≡ w). inl (p ∙ q)) (λ (h : length w ≤ (make w e).handle). inr (omega (arith, ap length q)))

-- ---- answers

-- an operation adds entries, and its answer is an entry of a kind from low to high, less than d deep, and new where anything was added
pub record Answers (u : List ℕ) (d low high : ℕ) (g : Grown) : Type 0 where
  pub adds : Adds u g
  pub part : Part g.words (length g.words) d low high g.handle
  pub new : New u g

-- an entry that is there
pub old_answers : {u : List ℕ} {k d low high h : ℕ} → Good u → Part u k d low high h → Answers u d low high (record { words = u; handle = h })
old_answers {u} {h = h} g p = record {
  adds = adds_none u h g.sound;
  part = record { entry = p.entry; earlier = part_used g p; least = p.least; most = p.most; shallow = p.shallow };
  new = inl refl;
}

-- an entry that is made once the used words u have grown to w
pub make_answers : {u w : List ℕ} {h : ℕ} (d low high : ℕ) → Adds u (record { words = w; handle = h }) → Good w → (e : List ℕ) → Fitting w e → Late u w (types_in e) → low ≤ kind e → kind e ≤ high → depth e < d → Answers u d low high (make w e)
make_answers {u} {w} {h} d low high from g e f late a b c =
    let g₁ = make w e in
    let adds = make_adds w e g.sound f in
    let m = make_in w e g.sound.low g.sound.full f.sized in
    let r : Row = record { at = g₁.handle; words = e } in
    let q = entry_head g₁.words r m in
    record {
      adds = adds_then u (record { words = w; handle = h }) g₁ from adds;
      part = record { entry = row_starts (entries g₁.words) r m; earlier = (in_used g₁.words adds.sound.low r m).1; least = rw q a; most = rw q b; shallow = rw q c };
      new = made_late u w e g (omega (arith, ap length from.is, length-append u from.more)) late;
    }

-- ---- a store in two segments

pub ready_segments : {old new : List ℕ} {used low high a b : ℕ} → Ready old new used low high a b → Segments old new used
ready_segments r = record { low = omega (arith, r.near); over = r.over; high = r.within; cut = r.cut; full = r.good.sound.full }

pub one_segments : {old new : List ℕ} {used a : ℕ} → ReadyOne old new used a → Segments old new used
one_segments r = record { low = omega (arith, r.near); over = r.over; high = r.within; cut = r.cut; full = r.good.sound.full }

-- a part of a type stands before it, and is ready too
pub part_ready : {old new : List ℕ} {used a x : ℕ} → ReadyOne old new used a → Part (take used (old ++ new)) a 33 1 11 x → (x < a) × ReadyOne old new used x
part_ready {used = used} rd px = (
  px.earlier,
  record {
    over = rd.over;
    within = rd.within;
    small = rd.small;
    cut = rd.cut;
    near = omega (arith, px.earlier, rd.near);
    good = rd.good;
    first = part_weak used 33 (omega (arith, rd.near)) (omega arith) px;
  },
)
