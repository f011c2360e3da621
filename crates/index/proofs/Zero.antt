-- A list of zeros is the index of a store without entries. Assumes nothing.
use mathlib.Core.Path.{◌≡◌}
use mathlib.Core.List.{List, []}
use Prim.Native.Nat.{ℕ, ◌+◌, ◌/◌, ◌≤◌}
use native.Mathlib.Omega.{arith}
use lib.ListN.{length, take, drop, get_or, length-take, drop_of_length-le}
use Rattle.words.specs.Table.{rows, entries}
use Rattle.index.specs.Chains.{newest_first, newest, link, Indexed}

pub no_entries : (ws index : List ℕ) → 1 ≤ length index / 2 → ((i : ℕ) → get_or index i 0 ≡ 0) → Indexed (take 1 ws) index
unfolding entries rows newest_first newest link
no_entries ws index low z =
    let n : length (take 1 ws) ≤ 1 = omega (arith, length-take 1 ws) in
    let e : drop 1 (take 1 ws) ≡ [] = drop_of_length-le (take 1 ws) n in
    record { room = omega arith; holds = rw e record { buckets = λ b l. z b; links = λ h p l. z (length index / 2 + h) } }
