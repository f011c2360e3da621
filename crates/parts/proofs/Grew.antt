-- A store on the way: entries were added to the used words, and they fit. And one operation after another. Assumes nothing.
use mathlib.Core.Path.{◌≡◌, refl, sym, ap, ◌∙◌}
use mathlib.Core.Bool.{true}
use mathlib.Core.List.{List, ◌++◌}
use Prim.Native.Nat.{ℕ, ◌+◌, ◌/◌, ◌≤◌}
use native.Mathlib.Omega.{arith}
use lib.ListN.{length, take, drop, length-append, take-append-drop}
use lib.Seq.{length-take-le, take-take}
use Rattle.words.specs.Words.{fills, kind_of, count_of}
use Rattle.words.specs.Made.{Grown, there}
use Rattle.words.specs.Ran.{Segments, Ran}
use Rattle.std.specs.Prelude.{Option, None}
use Rattle.words.specs.Ran.{interned}
use Rattle.words.specs.declared.Interned.{Interned}
use Rattle.words.proofs.Extend.{Extends, ext_take}
use Rattle.words.proofs.Room.{Fit, fit, fitted, fit_front, fit_length, then, stop}
use Rattle.index.specs.Covers.{Covers}
use Rattle.index.proofs.Keep.{covers_more}
use Rattle.wellformed.specs.Entry.{all, is_alias_final}
use Rattle.words.specs.Columns.{every, word, kind_on, count_on}
use Rattle.call.specs.Adds.{Adds}
use Rattle.call.proofs.Sound.{adds_none, adds_then}
use Rattle.parts.specs.Parts.{Good, Part}
use Rattle.parts.proofs.Parts.{of_struct}
use Rattle.parts.proofs.Good.{adds_long, adds_word, part_used, part_adds}

-- words that grew; the handle says nothing
abbrev grown : List ℕ → Grown
grown w = there w 0

any_handle : {u : List ℕ} {g : Grown} → Adds u g → Adds u (grown g.words)
any_handle a = record { sound = a.sound; more = a.more; is = a.is; extra = a.extra; rows = a.rows; own = a.own; ends = a.ends }

pub record Grew (old new : List ℕ) (used : ℕ) (now : List ℕ) (v : ℕ) : Type 0 where
  pub start : Good (take used (old ++ new))
  pub adds : Adds (take used (old ++ new)) (grown (take v (old ++ now)))
  pub fits : Fit (grown (take v (old ++ now))) (old ++ new) (old ++ now) 0 v
  pub within : used ≤ length (old ++ new)

pub grew_none : {old new : List ℕ} {used : ℕ} → Good (take used (old ++ new)) → used ≤ length old + length new → Grew old new used new used
grew_none {old} {new} {used} g h =
    let l = length-append old new in
    let n = length-take-le used (old ++ new) (omega (arith, l)) in
    record {
      start = g;
      adds = adds_none (take used (old ++ new)) 0 g.sound;
      fits = record { handle = refl; end = sym n; room = omega (arith, n, l); words = rw n (sym (take-append-drop used (old ++ new))) };
      within = omega (arith, l);
    }

-- an answer that is there already
pub grew_there : {old new : List ℕ} {used : ℕ} (h : ℕ) → Grew old new used new used → Ran used (record { words = take used (old ++ new); handle = h }) (old ++ new) (old ++ new) (interned h used)
grew_there {old} {new} {used} h w =
    let f = w.fits in
    fit used (record { words = take used (old ++ new); handle = h }) (old ++ new) (old ++ new) h used (record { handle = refl; end = f.end; room = f.room; words = f.words })

module _ {old new : List ℕ} {used : ℕ} {now : List ℕ} {v : ℕ} (w : Grew old new used now v) where
  abbrev u₀ : List ℕ
  u₀ = take used (old ++ new)

  abbrev u : List ℕ
  u = take v (old ++ now)

  pub grew_long : length now ≡ length new
  grew_long = omega (arith, fit_length (grown u) (old ++ new) (old ++ now) 0 v w.fits, length-append old new, length-append old now)

  pub grew_up : used ≤ v
  grew_up = omega (arith, adds_long w.start w.adds, length-take-le used (old ++ new) w.within, w.fits.end)

  pub grew_high : v ≤ length old + length new
  grew_high = omega (arith, w.fits.end, w.fits.room, length-append old new)

  ext : Extends u₀ u
  ext = record { more = w.adds.more; is = w.adds.is }

  pub grew_kept : take used (old ++ now) ≡ u₀
  grew_kept =
      sym (take-take used v (old ++ now) grew_up) ∙ ap (λ (k : ℕ). take k u) (sym (length-take-le used (old ++ new) w.within)) ∙ ext_take u₀ u ext

  -- an operation more
  module _ (g : Grown) (now' : List ℕ) (r : Option Interned) (grows : Extends u g.words) (ran : Ran v g (old ++ now) (old ++ now') r) where
    pub grew_ran : Ran used g (old ++ new) (old ++ now') r
    grew_ran = then (grown u) (old ++ new) (old ++ now) 0 v w.fits used ext w.within g (old ++ now') r grows ran

    pub grew_words : (h v' : ℕ) → r ≡ interned h v' → (h ≡ g.handle) × (take v' (old ++ now') ≡ g.words)
    grew_words h v' e =
        let f = fitted used g (old ++ new) (old ++ now') r grew_ran h v' e in
        (f.handle, fit_front g (old ++ new) (old ++ now') h v' f)

    pub grew_more : (h v' : ℕ) → r ≡ interned h v' → Adds u g → Grew old new used now' v'
    grew_more h v' e a =
        let f = fitted used g (old ++ new) (old ++ now') r grew_ran h v' e in
        let q = fit_front g (old ++ new) (old ++ now') h v' f in
        record {
          start = w.start;
          adds = rw q (adds_then u₀ (grown u) (grown g.words) w.adds (any_handle a));
          fits = rw q (record { handle = refl; end = f.end; room = f.room; words = f.words });
          within = w.within;
        }

    pub grew_stop : r ≡ None → (g₂ : Grown) → Extends g.words g₂.words → Ran used g₂ (old ++ new) (old ++ now') None
    grew_stop e g₂ x = stop used g g₂ (old ++ new) (old ++ now') x (rw e at grew_ran)

-- a first operation gave g₁, and a second takes its answer
module _ {old new : List ℕ} {used : ℕ} (first : Grew old new used new used) (g₁ : Grown) (now : List ℕ) (m : Option Interned) (grows : Extends (take used (old ++ new)) g₁.words) (ran : Ran used g₁ (old ++ new) (old ++ now) m) where
  pub then_made : (h v : ℕ) → m ≡ interned h v → Grew old new used now v → (op : List ℕ → ℕ → Grown) → ((w : List ℕ) (k : ℕ) → Extends w (op w k).words) → (now₂ : List ℕ) (o : Option Interned)
      → Ran v (op (take v (old ++ now)) h) (old ++ now) (old ++ now₂) o → Ran used (op g₁.words g₁.handle) (old ++ new) (old ++ now₂) o
  then_made h v f on op op-grows now₂ o l =
      let s = grew_words first g₁ now m grows ran h v f in
      let d : Ran v (op g₁.words g₁.handle) (old ++ now) (old ++ now₂) o = rw (s.1, s.0) at l in
      grew_ran on (op g₁.words g₁.handle) now₂ o (rw s.1 (op-grows g₁.words g₁.handle)) d

-- what the maker of the whole requires
pub grew_segments : {old new : List ℕ} {used : ℕ} {now : List ℕ} {v : ℕ} → Grew old new used now v → 1 ≤ used → length old ≤ used → fills 0 (drop 1 old) ≡ true → Segments old now v
grew_segments w low over cut =
    let up = grew_up w in
    record { low = omega arith; over = omega arith; high = omega (arith, grew_high w, grew_long w); cut = cut; full = w.adds.sound.full }

-- an index of the first words stays one
pub grew_covers : {old new : List ℕ} {used : ℕ} {now : List ℕ} {v : ℕ} {index : List ℕ} → Grew old new used now v → Covers (take used (old ++ new)) index → Covers (take v (old ++ now)) index
grew_covers {old} {new} {used} {now} {v} {index} w c = covers_more (take used (old ++ new)) (take v (old ++ now)) index (ext w) c

-- the aliases of a struct that was there are still there
pub grew_values : {old new : List ℕ} {used : ℕ} {now : List ℕ} {v top deep low high a : ℕ} → Grew old new used now v → Part (take used (old ++ new)) top deep low high a → kind_on (take used (old ++ new)) a ≡ 8
    → (x : ℕ) → x ≡ word (take used (old ++ new)) a → all is_alias_final (every 3 (x / 65536) (a + 4) (take v (old ++ now))) ≡ true
grew_values {old} {new} {used} {now} {v} {a = a} g p k x ex =
    let w = take v (old ++ now) in
    let head : word w a ≡ word (take used (old ++ new)) a = adds_word g.start g.adds a (part_used g.start p) in
    let s = of_struct g.adds.sound (part_adds g.start g.adds p) (ap kind_of head ∙ k) in
    let n : x / 65536 ≡ count_on w a = ap count_of (ex ∙ sym head) in
    rw n s.values
