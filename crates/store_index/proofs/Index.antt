-- The two parts of the index, and what they are together. Assumes nothing.
use mathlib.Core.Path.{◌≡◌, sym, ap, ◌∙◌}
use mathlib.Core.Bool.{true}
use mathlib.Core.List.{List, [], ◌++◌, append-nil}
use Prim.Native.Nat.{ℕ, ◌-◌, ◌≤◌}
use native.Mathlib.Omega.{arith}
use lib.ListN.{length, take, drop, get_or, length-drop, drop_of_length-le}
use lib.Seq.{length-take-le, length_front, take_at, drop_at, take-length}
use borrow.Rule.Slice.PartMut.{put_mid, same_len_mid}
use Rattle.words.specs.Table.{starts}
use Rattle.bitset.specs.Bitset.{bit_at}
use Rattle.wellformed.specs.Form.{well_formed, used_words}
use Rattle.wellformed.proofs.Before.{tests}
use Rattle.index.specs.Covers.{indexed_to, Blank, Opened}
use Rattle.store_index.specs.StoreIndex.{marks_size, index_size, chains_of, IndexOf}
use Rattle.store_index.specs.Steps.{Stale}

-- ---- the words in use

pub used_long : (ws : List ℕ) → well_formed ws ≡ true → length (used_words ws) ≡ get_or ws 0 0
used_long ws ok = length-take-le (get_or ws 0 0) ws (tests ws ok).within

-- ---- the two parts of the index, lent one after the other

pub tail_all : (k : ℕ) (l : List ℕ) → take (length l - k) (drop k l) ≡ drop k l
tail_all k l = ap (λ (n : ℕ). take n (drop k l)) (sym (length-drop k l)) ∙ take-length (drop k l)

-- d came back in the place of all behind the first k
module _ (k : ℕ) (l d : List ℕ) (fits : k ≤ length l) (same : length d ≡ length (take (length l - k) (drop k l))) where
  abbrev pub back : List ℕ
  back = put_mid k (length l - k) l d

  pub back_long : length back ≡ length l
  back_long = same_len_mid k (length l - k) l d same

  front_long : length (take k l) ≡ k
  front_long = length-take-le k l fits

  pub back_front : take k back ≡ take k l
  back_front = take_at (take k l) (d ++ drop (length l - k) (drop k l)) k front_long

  pub back_rest : drop k back ≡ d
  back_rest =
      let none : drop (length l - k) (drop k l) ≡ [] = drop_of_length-le (drop k l) {i = length l - k} (omega (arith, length-drop k l)) in
      drop_at (take k l) (d ++ drop (length l - k) (drop k l)) k front_long ∙ rw none (append-nil d)

-- nothing was appended
pub none_new : (ws index : List ℕ) → well_formed ws ≡ true → Stale ws index → (k : ℕ) → k ≡ marks_size (length ws) → (from : ℕ) → from ≡ indexed_to (take (length index - k) (drop k index)) → from ≡ get_or ws 0 0 → IndexOf ws index
none_new ws index ok s k is from covered all =
    let q : indexed_to (drop k index) ≡ get_or ws 0 0 = ap indexed_to (sym (tail_all k index)) ∙ sym covered ∙ all in
    let e : indexed_to (chains_of ws index) ≡ get_or ws 0 0 = rw is at q in
    record {
      room = s.room;
      marks = s.marks ∙ ap (λ (n : ℕ). starts (take n ws)) e;
      chains = record { covers = s.covers; all = λ fits. e ∙ sym (used_long ws ok) };
    }

module _ (ws index : List ℕ) (k : ℕ) (is : k ≡ marks_size (length ws)) (room : index_size (length ws) ≤ length index) where
  pub k_fits : k ≤ length index
  k_fits = omega (arith, is, room)

  pub marks_long : k ≡ length (take k index)
  marks_long = sym (length-take-le k index k_fits)

  -- the marks came back
  module _ (bits : List ℕ) (same : length bits ≡ length (take k index)) where
    abbrev two : List ℕ
    two = bits ++ drop k index

    bits_long : length bits ≡ k
    bits_long = same ∙ length-take-le k index k_fits

    pub two_long : length two ≡ length index
    two_long = length_front index bits k same

    pub two_marks : take k two ≡ bits
    two_marks = take_at bits (drop k index) k bits_long

    pub two_chains : take (length two - k) (drop k two) ≡ drop k index
    two_chains = tail_all k two ∙ drop_at bits (drop k index) k bits_long

    -- the chains are as they were
    pub two_index : bit_at bits ≡ starts (used_words ws) → Opened (used_words ws) (chains_of ws index) → IndexOf ws two
    two_index marks opened =
        let c : drop k two ≡ drop k index = drop_at bits (drop k index) k bits_long in
        record { room = omega (arith, two_long, room); marks = rw (sym is, two_marks) marks; chains = rw (sym is, c) (rw (sym is) at opened) }

    -- and then the chains
    module _ (chains : List ℕ) (long : length chains ≡ length (take (length two - k) (drop k two))) where
      two_fits : k ≤ length two
      two_fits = omega (arith, two_long, k_fits)

      abbrev three : List ℕ
      three = put_mid k (length two - k) two chains

      pub three_room : index_size (length ws) ≤ length three
      three_room = omega (arith, back_long k two chains two_fits long, two_long, room)

      pub three_marks : take k three ≡ bits
      three_marks = back_front k two chains two_fits long ∙ two_marks

      pub three_chains : drop k three ≡ chains
      three_chains = back_rest k two chains two_fits long

      pub three_index : bit_at bits ≡ starts (used_words ws) → Opened (used_words ws) chains → IndexOf ws three
      three_index marks opened = record { room = three_room; marks = rw (sym is, three_marks) marks; chains = rw (sym is, three_chains) opened }

      -- no entry is in it yet
      pub three_blank : 1 ≤ length (used_words ws) → bit_at bits ≡ starts (take 1 ws) → Blank chains → Stale ws three
      three_blank some marks blank = record {
        room = three_room;
        covers = rw (sym is, three_chains) (blank.covers (used_words ws) some);
        marks = rw (sym is, three_marks, three_chains, blank.none) marks;
      }
