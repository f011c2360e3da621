-- Every n above the handle gives the same kinds that a type reaches: n only bounds the recursion. Assumes nothing.
use mathlib.Core.Path.{◌≡◌, refl, ap}
use mathlib.Core.Bool.{Bool, true, false, cond, ◌||◌}
use mathlib.Core.List.{List, [], ◌∷◌}
use Prim.Native.Nat.{ℕ, zero, suc, ◌≤◌, ◌<◌}
use native.Mathlib.Omega.{arith}
use lib.Dec.{eqb}
use Rattle.words.specs.Table.{starts}
use Rattle.wellformed.specs.Entry.{kind, types_in, is_type, is_struct, kind_in, kind_at, all, deepest}
use Rattle.wellformed.specs.Form.{heads_at}
use Rattle.wellformed.proofs.Before.{Checked}
use Rattle.words.specs.Columns.{kind_on}
use Rattle.parts.specs.Parts.{Good, Part, All}
use Rattle.parts.proofs.Checked.{tested, parts, row_checked}
use Rattle.parts.proofs.Parts.{all_map}
use Rattle.parts.proofs.Good.{handle_part}
use Rattle.meaning.proofs.View.{Before}
use Rattle.meaning.proofs.Store.{Typed, row_of, row_in, row_at}
use Rattle.demand3.specs.Demand3.{entry_on, some, reaches_within}
use Rattle.demand3.proofs.Reaching.{entry_words}

-- the types in an entry, which row 1 has checked, are types before it
module _ {u : List ℕ} (g : Good u) {h : ℕ} (p : Typed u h) (c : Checked (λ x. starts u x ≡ true) u (row_of g p)) where
  abbrev ts : List ℕ
  ts = types_in (row_of g p).words

  abbrev heads : ℕ → ℕ
  heads = heads_at c.start u

  of_kinds : (low high : ℕ) → 1 ≤ low → high ≤ 11 → all (kind_at heads (kind_in low high)) ts ≡ true → All (Before (Typed u) h) ts
  of_kinds low high l m q =
      let a = parts c.start u low high (row_of g p).at (suc (deepest heads ts)) (omega arith) c.earlier ts q (omega arith) in
      all_map (λ x z. (handle_part x g z.entry (omega (arith, z.least)) (omega (arith, z.most)), omega (arith, z.earlier, row_at g p))) ts a

  by_kind : (b : Bool) → all (kind_at heads (cond b is_struct is_type)) ts ≡ true → All (Before (Typed u) h) ts
  by_kind true = of_kinds 8 9 (omega arith) (omega arith)
  by_kind false = of_kinds 1 11 (omega arith) (omega arith)

types_before : {u : List ℕ} → Good u → {h : ℕ} → Typed u h → All (Before (Typed u) h) (types_in (entry_on u h))
types_before {u} g p =
    let e = (row_of g p).words in
    let c = row_checked u g.sound (row_of g p) (row_in g p) in
    rw (entry_words g p) (by_kind g p c (eqb (kind e) 10) (tested (heads_at c.start u) e c.ok).typed)

-- two tests that answer the same of each
some_same : (f f' : ℕ → Bool) (P : ℕ → Type 0) → ((x : ℕ) → P x → f x ≡ f' x) → (xs : List ℕ) → All P xs → some f xs ≡ some f' xs
unfolding some
some_same f f' P same [] a = refl
some_same f f' P same (x ∷ xs) a = rw (same x a.0, some_same f f' P same xs a.1)

-- h is any type of good used words, k any kind
pub reaches_any : {u : List ℕ} → Good u → (k : ℕ) {h top d : ℕ} → Part u top d 1 11 h → (m n : ℕ) → h < m → h < n → reaches_within m u k h ≡ reaches_within n u k h
unfolding reaches_within
reaches_any g k p zero n l r = absurd (omega arith)
reaches_any g k p (suc m) zero l r = absurd (omega arith)
reaches_any {u} g k {h} p (suc m) (suc n) l r =
    let t = types_before g (handle_part h g p.entry p.least p.most) in
    let s = some_same (reaches_within m u k) (reaches_within n u k) (Before (Typed u) h) (λ x q. reaches_any g k q.0 m n (omega (arith, q.1)) (omega (arith, q.1))) (types_in (entry_on u h)) t in
    ap (λ (b : Bool). eqb (kind_on u h) k || b) s
