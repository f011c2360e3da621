-- What stands behind a space and a word of what is left is the end of what there was, too.
use Rattle.std.proofs.Common.{◌≡◌, List, ℕ, ◌++◌, ◌+◌, ◌-◌, ◌≤◌, length, take, drop, sym, ap, ◌∙◌, arith, length-append, length-drop}
use Rattle.std.proofs.Math.Seq.{drop-append_seam}
use Rattle.std.proofs.lemmas.List.{drop-drop}
use lib.Seq.{take_all}
use Rattle.script.proofs.lines.after_words.Goals as goal
use Rattle.script.proofs.lines.after_words.Goals.{then-left-lt1, in-32, else-left-lt1+in_default-1}

module _ (rest left word behind : List ℕ) (some : 1 ≤ length left) (few : length left ≤ length rest) (split : word ++ behind ≡ take (length left - 1) (drop 1 left)) where
  parts : word ++ behind ≡ drop 1 left
  parts = split ∙ take_all (length left - 1) (drop 1 left) (omega (arith, length-drop 1 left))

  sizes : length word + length behind + 1 ≡ length left
  sizes = omega (arith, length-append word behind, ap length parts, length-drop 1 left)

  still_end : left ≡ drop (length rest - length left) rest → (length behind ≤ length rest) × (behind ≡ drop (length rest - length behind) rest)
  still_end is =
      let same : length rest - length left + 1 + length word ≡ length rest - length behind = omega (arith, sizes) in (
        omega (arith, sizes),
        sym (drop-append_seam word behind)
            ∙ ap (drop (length word)) (parts ∙ ap (drop 1) is ∙ drop-drop 1 (length rest - length left) rest)
            ∙ drop-drop (length word) (length rest - length left + 1) rest
            ∙ ap (λ n. drop n rest) same,
      )

pub loop-preserved : goal.loop-preserved
loop-preserved c = elim c.if-left-lt1.branch [
  | then-left-lt1 w ↦ rw w.left-is c.loop.invariant
  | in-32 w ↦ rw w.left-is (still_end _ _ _ _ w.in-32.len_at_least c.loop.invariant.0 w.split_word.ensures c.loop.invariant.1)
  | else-left-lt1+in_default-1 w ↦ rw w.left-is c.loop.invariant
]
