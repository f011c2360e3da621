-- `make_ary` keeps what every call keeps: three names and a struct around them. Assumes nothing.
use mathlib.Core.Path.{◌≡◌, refl}
use mathlib.Core.Bool.{true, not, ◌||◌}
use mathlib.Core.List.{List, [], ◌∷◌, ◌++◌}
use Prim.Native.Nat.{ℕ, zero, suc, ◌+◌, ◌≤◌, ◌<◌}
use native.Mathlib.Omega.{arith}
use borrow.Author.Tests.{ltb-false, not-false, leb-true, le-leb}
use lib.Dec.{leb, ltb}
use lib.ListN.{length, get_or}
use Rattle.words.specs.Kinds.{Int}
use Rattle.words.specs.Words.{kind_of}
use Rattle.words.specs.Made.{Grown, make}
use Rattle.wellformed.specs.Entry.{kind_in, kind_at, is_name, is_type, is_alias, most_of, all, deepest, deepest_allowed}
use Rattle.words.specs.Columns.{every, word}
use Rattle.wellformed.specs.Form.{well_formed, used_words}
use Rattle.wellformed.proofs.Bools.{and_left, and_right, and_both}
use Rattle.call.specs.Call.{◌when◌, ◌otherwise◌}
use Rattle.call.specs.Handles.{no_entry, wrong_kind, too_deep}
use Rattle.call.specs.Keep.{Keeps}
use Rattle.call.specs.Adds.{Sound, Adds}
use Rattle.call.proofs.Sound.{make_adds, adds_then}
use Rattle.call.proofs.Keep.{call_keeps}
use Rattle.names.specs.Name.{name_entry, wrapped}
use Rattle.makers.specs.Entries.{struct_entry}
use Rattle.makers.specs.Fit.{ValuesFit}
use Rattle.makers.specs.Makers.{ary_rows, never_nil, length_name, body_name, make_ary, make_ary_call}
use Rattle.kept.proofs.Fits.{Right, right_cons, StructParts, struct_fits}
use Rattle.kept.proofs.NameFits.{name_fitting}
use Rattle.kept.proofs.Rows.{then_off, four_off, either_off, flat_of}
use Rattle.kept.proofs.Later.{later_right, later_deepest, name_right}

-- ---- bytes

-- the brackets are bytes, too
bytes_wrapped : (text : List ℕ) → ((i : ℕ) → get_or text i 0 < 256) → (i : ℕ) → get_or (wrapped true text) i 0 < 256
unfolding wrapped
bytes_wrapped text small zero = omega arith
bytes_wrapped text small (suc i) = closed text small i
  where
    closed : (l : List ℕ) → ((i : ℕ) → get_or l i 0 < 256) → (i : ℕ) → get_or (l ++ (93 ∷ [])) i 0 < 256
    closed [] b zero = omega arith
    closed [] b (suc i) = omega arith
    closed (x ∷ l) b zero = b 0
    closed (x ∷ l) b (suc i) = closed l (λ j. b (suc j)) i

length_bytes : (i : ℕ) → get_or length_name i 0 < 256
length_bytes zero = omega arith
length_bytes (suc i) = omega arith

body_bytes : (i : ℕ) → get_or body_name i 0 < 256
body_bytes zero = omega arith
body_bytes (suc zero) = omega arith
body_bytes (suc (suc i)) = omega arith

-- ---- the parts of an array, where no row applies

-- an Int is a type
int_type : (k : ℕ) → kind_in Int Int k ≡ true → is_type k ≡ true
int_type k e =
    let low : 5 ≤ k = leb-true _ _ (and_left (leb 5 k) (leb k 5) e) in
    let high : k ≤ 5 = leb-true _ _ (and_right (leb 5 k) (leb k 5) e) in
    and_both (leb 1 k) (leb k 11) (le-leb 1 k (omega arith)) (le-leb k 11 (omega arith))

module _ (len lenAlias body bodyAlias : ℕ) (text u : List ℕ) where
  pub record AryParts : Type 0 where
    pub typed : Right u is_type (len ∷ body ∷ [])
    pub flat : 1 + deepest (word u) (len ∷ body ∷ []) ≤ deepest_allowed
    pub len_alias : is_alias lenAlias ≡ true
    pub body_alias : is_alias bodyAlias ≡ true
    pub few : length (wrapped true text) ≤ 255

  pub ary_parts : ary_rows len lenAlias body bodyAlias text u ≡ 0 → AryParts
  unfolding ary_rows all
  ary_parts q =
      let e₂ = no_entry u (len ∷ body ∷ []) in
      let w = wrong_kind u (kind_in Int Int) (len ∷ []) in
      let v = wrong_kind u is_type (body ∷ []) in
      let a = not (is_alias lenAlias) in
      let b = not (is_alias bodyAlias) in
      let e₅ = ltb 255 (length (wrapped true text)) in
      let e₆ = too_deep u (len ∷ body ∷ []) in
      let e₁₀ = never_nil u body in
      let x = then_off 1 e₂ (3 when (w || v) otherwise 4 when (a || b) otherwise 5 when e₅ otherwise 6 when e₆ otherwise 10 when e₁₀) q in
      let y = then_off 2 (w || v) (4 when (a || b) otherwise 5 when e₅ otherwise 6 when e₆ otherwise 10 when e₁₀) x.1 in
      let f = four_off 3 4 5 9 (a || b) e₅ e₆ e₁₀ y.1 in
      let k = either_off w v y.0 in
      let n = either_off a b f.0 in
      let int = and_left (kind_in Int Int (kind_of (word u len))) true (not-false _ k.0) in
      record {
        typed = record {
          start = not-false _ x.0;
          kinds = and_both (is_type (kind_of (word u len))) (all (kind_at (word u) is_type) (body ∷ [])) (int_type (kind_of (word u len)) int) (not-false _ k.1);
        };
        flat = flat_of u (len ∷ body ∷ []) f.2;
        len_alias = not-false _ n.0;
        body_alias = not-false _ n.1;
        few = ltb-false 255 (length (wrapped true text)) f.1;
      }

  module _ (bytes : (i : ℕ) → get_or text i 0 < 256) (s : Sound u) (p : AryParts) where
    -- the array's name, and the names of its two fields
    abbrev name : Grown
    name = make u (name_entry (wrapped true text))

    abbrev len_name : Grown
    len_name = make name.words (name_entry length_name)

    abbrev body_name_is : Grown
    body_name_is = make len_name.words (name_entry body_name)

    abbrev fs : List ℕ
    fs = len_name.handle ∷ len ∷ lenAlias ∷ 1 ∷ body_name_is.handle ∷ body ∷ bodyAlias ∷ 0 ∷ []

    name_adds : Adds u name
    name_adds = make_adds u (name_entry (wrapped true text)) s (name_fitting u (wrapped true text) p.few (bytes_wrapped text bytes))

    length_adds : Adds name.words len_name
    length_adds = make_adds name.words (name_entry length_name) name_adds.sound (name_fitting name.words length_name (omega arith) length_bytes)

    body_adds : Adds len_name.words body_name_is
    body_adds = make_adds len_name.words (name_entry body_name) length_adds.sound (name_fitting len_name.words body_name (omega arith) body_bytes)

    -- the last two names together, then all three
    last_adds : Adds name.words body_name_is
    last_adds = adds_then name.words len_name body_name_is length_adds body_adds

    names_add : Adds u body_name_is
    names_add = adds_then u name body_name_is name_adds last_adds

    values : ValuesFit fs
    unfolding every all
    values = record { aliases = rw (p.len_alias, p.body_alias); finals = refl }

    parts : StructParts name.handle fs body_name_is.words
    unfolding every most_of
    parts =
        let v = body_name_is.words in
        let n₁ = later_right name.words body_name_is name_adds.sound last_adds is_name (name.handle ∷ []) (name_right u (wrapped true text) s) in
        let n₂ = later_right len_name.words body_name_is length_adds.sound body_adds is_name (len_name.handle ∷ []) (name_right name.words length_name name_adds.sound) in
        let n₃ = name_right len_name.words body_name length_adds.sound in
        record {
          low = omega arith;
          high = omega arith;
          few = omega arith;
          flat = rw (later_deepest u body_name_is s names_add (len ∷ body ∷ []) p.typed.start) p.flat;
          named =
              right_cons v is_name name.handle (len_name.handle ∷ body_name_is.handle ∷ []) n₁
              (right_cons v is_name len_name.handle (body_name_is.handle ∷ []) n₂ n₃);
          typed = later_right u body_name_is s names_add is_type (len ∷ body ∷ []) p.typed;
        }

    pub ary_adds : Adds u (make_ary len lenAlias body bodyAlias text u)
    ary_adds =
        let v = body_name_is.words in
        let e = struct_entry name.handle fs v in
        adds_then u body_name_is (make v e) names_add (make_adds v e names_add.sound (struct_fits name.handle fs v parts values))

pub ary_keeps : (len lenAlias body bodyAlias : ℕ) (text : List ℕ) → ((i : ℕ) → get_or text i 0 < 256) → (ws : List ℕ) → well_formed ws ≡ true → Keeps ws (make_ary_call len lenAlias body bodyAlias text ws)
ary_keeps len lenAlias body bodyAlias text bytes ws ok =
    let u = used_words ws in
    call_keeps (ary_rows len lenAlias body bodyAlias text) (make_ary len lenAlias body bodyAlias text) ws ok
    (λ s q. ary_adds len lenAlias body bodyAlias text u bytes s (ary_parts len lenAlias body bodyAlias text u q))
