-- Demand 3: the laws of every list of calls from a fresh store, or from a loaded one. The statement is `Demand3`, at the end; proofs/Demand3.antt proves it. `Call` and `run` (every_call/specs/Run.antt) are
-- those that the contracts of the functions cite: "the makers of `Types`, meet, isa, dual, join, glb, lub, is_final and make_ro .. Each other call that takes a store joins the list when it
-- lands".
-- The quoted words are document 01's, "Demand 3's list", unless another place is named. The merge of a whole list is document 02's Slip 1, a loaded store its Slip 3.
use Rattle.std.specs.Prelude.{◌≡◌, Bool, true, false, ◌||◌, ◌⊎◌, ◌↔◌, List, [], ◌∷◌, ℕ, zero, suc, eqb, take, drop}
use Rattle.words.specs.Kinds.{Fref, Mem}
use Rattle.words.specs.Words.{size_of}
use Rattle.wellformed.specs.Entry.{types_in, all}
use Rattle.wellformed.specs.Form.{right_length, used_words}
use Rattle.call.specs.Call.{Outcome, handle, number, flag}
use Rattle.call.specs.Handles.{types_rows}
use Rattle.words.specs.Columns.{word, kind_on}
use Rattle.makers.specs.Makers.{fresh_call}
use Rattle.catalogue.specs.Catalogue.{load_call}
use Rattle.loaded.specs.Loaded.{AreBytes}
use Rattle.every_call.specs.Run.{Call, meet, meet_list, isa, join, dual, glb, lub, make_ro, run, all_typed}

-- ---- reaching: "A type reaches its own kind and all that its parts reach". `u` is the used words.

-- the words of the entry at h
abbrev pub entry_on : List ℕ → ℕ → List ℕ
entry_on u h = take (size_of (word u h)) (drop h u)

-- the test holds of one of them
unfoldable pub some : (ℕ → Bool) → List ℕ → Bool
some p [] = false
some p (x ∷ xs) = p x || some p xs

-- The parts of an entry stand before it: n is above the handle, and falls with it; 0 is not come to. Every n above the handle gives the same (`reaches_any`, proofs/Any.antt).
unfoldable pub reaches_within : ℕ → List ℕ → ℕ → ℕ → Bool
reaches_within zero u k h = false
reaches_within (suc n) u k h = eqb (kind_on u h) k || some (reaches_within n u k) (types_in (entry_on u h))

-- whether the type at h reaches the kind k
abbrev pub reaches : List ℕ → ℕ → ℕ → Bool
reaches u k h = reaches_within (suc h) u k h

-- x is one of these
abbrev pub In : ℕ → List ℕ → Type 0
In x [] = ⊥
In x (h ∷ hs) = (x ≡ h) ⊎ In x hs

-- ---- lists of calls, of which each does what `does` says. The theorem is about `run`.

module _ (does : Call → List ℕ → Outcome) where
  -- "each call, with any arguments, gets the store as the last one left it": the store that a list leaves of ws
  unfoldable pub leaves : List Call → List ℕ → List ℕ
  leaves [] ws = ws
  leaves (c ∷ cs) ws = leaves cs (does c ws).words

  -- an accepted call: c is one of the list, and h is the handle that it handed back, on the store that the calls before it left
  abbrev pub Gave : List Call → List ℕ → Call → ℕ → Type 0
  Gave [] ws c h = ⊥
  Gave (d ∷ cs) ws c h = ((d ≡ c) × ((does d ws).reply ≡ handle h)) ⊎ Gave cs (does d ws).words c h

  module _ (cs : List Call) (ws : List ℕ) where
    -- the used words of the store that the list leaves
    abbrev pub final_words : List ℕ
    final_words = used_words (leaves cs ws)

    -- "isa is its answer on the store the list leaves". Where a isa b, b is above a: Bot is above all types, and a glb, which document 01 calls lower, is above its type.
    abbrev pub Isa : ℕ → ℕ → Type 0
    Isa a b = (does (isa a b) (leaves cs ws)).reply ≡ flag true

    -- h is a type of that store (rows 2 and 3 do not turn it back) that reaches no memory type ("memory types are kind 11") and no forward reference
    pub record Plain (h : ℕ) : Type 0 where
      pub type : types_rows (h ∷ []) final_words ≡ 0
      pub memory : reaches final_words Mem h ≡ false
      pub forward : reaches final_words Fref h ≡ false

    -- "A bracketing is a single type, or an accepted meet of the list on the handles of two earlier bracketings .. Any calls may stand between. For joins likewise." The
    -- operation is meet or join, the index is the bracketing's handle. Which of the calls came first is not asked, so that more are bracketings; that a single
    -- handle is a type is asked by `AllPlain` below. An accepted merge of a whole list, of the handles of any number of bracketings, is a bracketing of meets too.
    mutual
      pub data Bracketing (op : ℕ → ℕ → Call) : ℕ → Type 0 where
        single : (h : ℕ) → Bracketing op h
        pair : {a b c : ℕ} → Bracketing op a → Bracketing op b → Gave cs ws (op a b) c → Bracketing op c
        whole : {hs : List ℕ} {c : ℕ} → op ≡ meet → Bracketings op hs → Gave cs ws (meet_list hs) c → Bracketing op c

      -- one for each handle of a list
      pub data Bracketings (op : ℕ → ℕ → Call) : List ℕ → Type 0 where
        none : Bracketings op []
        more : {h : ℕ} {hs : List ℕ} → Bracketing op h → Bracketings op hs → Bracketings op (h ∷ hs)

    module _ {op : ℕ → ℕ → Call} where
      -- "the types it is built from are its set": x is in it. That of a list is the sets of its bracketings together, and of the empty list empty.
      abbrev mutual
        pub Member : {c : ℕ} → Bracketing op c → ℕ → Type 0
        Member (single h) x = x ≡ h
        Member (pair p q g) x = Member p x ⊎ Member q x
        Member (whole e ps g) x = Members ps x

        pub Members : {hs : List ℕ} → Bracketings op hs → ℕ → Type 0
        Members none x = ⊥
        Members (more p ps) x = Member p x ⊎ Members ps x

      abbrev pub AllPlain : {c : ℕ} → Bracketing op c → Type 0
      AllPlain p = (x : ℕ) → Member p x → Plain x

      -- any order, any repeats
      abbrev pub SameSet : {c d : ℕ} → Bracketing op c → Bracketing op d → Type 0
      SameSet p q = (x : ℕ) → Member p x ↔ Member q x

      -- of empty lists alone
      abbrev pub Empty : {c : ℕ} → Bracketing op c → Type 0
      Empty p = (x : ℕ) → Member p x → ⊥

    pub record Laws : Type 0 where
      -- bracketings of meets over one set have one handle, single meets and merges of lists together
      pub meets_agree : {c d : ℕ} (p : Bracketing meet c) (q : Bracketing meet d) → AllPlain p → SameSet p q → c ≡ d
      -- each member isa it
      pub meets_above : {c : ℕ} (p : Bracketing meet c) → AllPlain p → (x : ℕ) → Member p x → Isa x c
      -- and it isa every type, of whatever kinds, that all members are isa (that t is a type is asked where there is no member: else their isa says so)
      pub meets_least : {c : ℕ} (p : Bracketing meet c) → AllPlain p → (t : ℕ) → (Empty p → types_rows (t ∷ []) final_words ≡ 0) → ((x : ℕ) → Member p x → Isa x t) → Isa c t
      -- document 02, Slip 1: "Accepted list calls on one set of types that reach no memory type and no forward reference, made one after another .. give one handle in any order of the list"
      pub lists_agree : (hs ks : List ℕ) (c d : ℕ) → Gave cs ws (meet_list hs) c → Gave cs ws (meet_list ks) d → ((x : ℕ) → In x hs → Plain x) → ((x : ℕ) → In x hs ↔ In x ks) → c ≡ d
      -- bracketings of joins over one set have one handle
      pub joins_agree : {c d : ℕ} (p : Bracketing join c) (q : Bracketing join d) → AllPlain p → SameSet p q → c ≡ d
      -- it isa each member
      pub joins_below : {c : ℕ} (p : Bracketing join c) → AllPlain p → (x : ℕ) → Member p x → Isa c x
      -- and every type that isa all members, and reaches no forward reference, isa it (the forward reference X isa the structs X without fields and X with one, and is not isa their
      -- join, $TOP: `third_outside` of proofs/Examples.antt)
      pub joins_greatest : {c : ℕ} (p : Bracketing join c) → AllPlain p → (t : ℕ) → reaches final_words Fref t ≡ false → ((x : ℕ) → Member p x → Isa t x) → Isa t c
      -- the dual of a type's dual is the type itself
      pub dual_back : (a b c : ℕ) → Plain a → Gave cs ws (dual a) b → Gave cs ws (dual b) c → c ≡ a
      -- a isa b exactly where b's dual isa a's
      pub dual_turns : (a b a' b' : ℕ) → Plain a → Plain b → Gave cs ws (dual a) a' → Gave cs ws (dual b) b' → Isa a b ↔ Isa b' a'
      -- lub isa t, t isa glb, t isa its read-only form
      pub lub_below : (t h : ℕ) → Plain t → Gave cs ws (lub t) h → Isa h t
      pub glb_above : (t h : ℕ) → Plain t → Gave cs ws (glb t) h → Isa t h
      pub read_only_above : (t h : ℕ) → Plain t → Gave cs ws (make_ro t) h → Isa t h

-- ---- where a list starts

-- "The list starts from a fresh store of any length row 1 allows": ws is what `fresh` leaves in some lent list vs
abbrev pub FreshStore : List ℕ → Type 0
FreshStore ws = (vs : List ℕ) × (right_length vs ≡ true) × (ws ≡ (fresh_call vs).words)

-- document 02, Slip 3: "A loaded store counts as grown from a fresh one: demand 3's lists may start from it, and do not contain the load." ws is what an accepted load of the bytes f leaves in some lent list vs
abbrev pub LoadedStore : List ℕ → Type 0
LoadedStore ws = (f vs : List ℕ) × (l : ℕ) × AreBytes f × ((load_call f vs).reply ≡ number l) × (ws ≡ (load_call f vs).words)

-- demand 3: of every list of calls cs, "with any arguments", from every such store. The ends of an Int are 64-bit words, and a text is bytes; all else is any numbers at all.
abbrev pub Demand3 : Type 0
Demand3 = (ws : List ℕ) → FreshStore ws ⊎ LoadedStore ws → (cs : List Call) → all_typed cs ≡ true → Laws run cs ws
