-- What `intern` hands back on each of its three ways is what `make` says. Assumes nothing.
use mathlib.Core.Path.{◌≡◌, refl, sym, ap, ◌∙◌}
use mathlib.Core.List.{List, ◌++◌, append-nil, append_assoc}
use Prim.Native.Nat.{ℕ, ◌+◌, ◌-◌, ◌≤◌, ◌<◌}
use native.Mathlib.Omega.{arith}
use borrow.Rule.Slice.PartMut.{put_mid}
use lib.ListN.{length, take, drop, length-drop, length-append, drop_of_length-le, take-append-drop}
use lib.Seq.{take_all, drop-drop, length-take-le}
use Rattle.words.specs.Table.{find_in}
use Rattle.words.specs.Made.{make}
use Rattle.words.specs.Ran.{Segments, Ran}
use Rattle.std.specs.Prelude.{Option, Some, None}
use Rattle.words.specs.Ran.{interned}
use Rattle.words.proofs.Extend.{Extends, ext_same, ext_by}
use Rattle.words.proofs.Room.{fit, over}
use Rattle.words.proofs.Join.{take_past, drop_past}

pub make_there : (u e : List ℕ) (h : ℕ) → find_in u e ≡ Some h → make u e ≡ record { words = u; handle = h }
unfolding make
make_there u e h f = rw f

pub make_new : (u e : List ℕ) → find_in u e ≡ None → make u e ≡ record { words = u ++ e; handle = length u }
unfolding make
make_new u e f = rw f

module _ (old new : List ℕ) (used : ℕ) (e : List ℕ) (s : Segments old new used) (f : Option ℕ) (is : f ≡ find_in (take used (old ++ new)) e) where
  long : length (take used (old ++ new)) ≡ used
  long = length-take-le used (old ++ new) (omega (arith, length-append old new, s.high))

  pub there : (h : ℕ) → f ≡ Some h → Ran used (make (take used (old ++ new)) e) (old ++ new) (old ++ new) (interned h used)
  there h at =
      rw (make_there (take used (old ++ new)) e h (sym is ∙ at))
      (fit _ _ _ _ _ _ record {
        handle = refl;
        end = sym long;
        room = omega (arith, long, length-append old new, s.high);
        words = rw long (sym (take-append-drop used (old ++ new)));
      })

  -- where none is there, an entry of n words
  module _ (gone : f ≡ None) (n : ℕ) (words : n ≡ length e) where
    abbrev at : ℕ
    at = used - length old

    pub appended : (d : List ℕ) → n ≤ length new - (used - length old)
        → d ≡ e ++ drop (length e) (take (length new - (used - length old)) (drop (used - length old) new))
        → Ran used (make (take used (old ++ new)) e) (old ++ new) (old ++ put_mid (used - length old) (length new - (used - length old)) new d) (interned used (used + n))
    appended d room eq =
        let m : length (take used (old ++ new) ++ e) ≡ used + length e = length-append (take used (old ++ new)) e ∙ ap (λ (k : ℕ). k + length e) long in
        let h : length (drop at new) ≤ length new - at = omega (arith, length-drop at new) in
        let k : (used + length e) - length old ≡ at + length e = omega (arith, s.over) in
        let o : length old ≤ used + length e = omega (arith, s.over) in
        rw (words, make_new (take used (old ++ new)) e (sym is ∙ gone))
        (fit _ _ _ _ _ _ record {
          handle = sym long;
          end = sym m;
          room = omega (arith, m, length-append old new, s.high, s.over);
          words = rw (m, drop_past old new (used + length e) o, k, take_past old new used s.over, eq, take_all (length new - at) (drop at new) h, drop-drop (length e) at new, drop_of_length-le (drop at new) h, append-nil) (simp append_assoc);
        })

    pub no_room : length new - (used - length old) < n → Ran used (make (take used (old ++ new)) e) (old ++ new) (old ++ new) None
    no_room out =
        let m : length (take used (old ++ new) ++ e) ≡ used + length e = length-append (take used (old ++ new)) e ∙ ap (λ (k : ℕ). k + length e) long in
        rw (make_new (take used (old ++ new)) e (sym is ∙ gone))
        (over _ _ _ _ (omega (arith, m, length-append old new, s.high, s.over)) refl)

-- making an entry only adds
pub make_extends : (u e : List ℕ) → Extends u (make u e).words
make_extends u e = go (find_in u e) refl
  where
    go : (f : Option ℕ) → find_in u e ≡ f → Extends u (make u e).words
    go (Some h) q = rw (make_there u e h q) (ext_same u)
    go None q = rw (make_new u e q) (ext_by u e)
