-- Demand 3, the theorem: every list of calls from every fresh store, and from every loaded one, has the laws of specs/Demand3.antt. Assumes nothing.
use mathlib.Core.Path.{◌≡◌, refl, sym, ap, ◌∙◌}
use mathlib.Core.Logic.{◌⊎◌, inl, inr, ⊎_elim, ⊎_map, ◌↔◌}
use mathlib.Core.Bool.{Bool, true, false}
use mathlib.Core.List.{List, [], ◌∷◌, ◌++◌, append_assoc}
use Prim.Native.Nat.{ℕ, zero, suc, max}
use native.Mathlib.Omega.{arith}
use borrow.Author.Tests.{eqb-true, eq-eqb, le-leb}
use Rattle.words.specs.Kinds.{Fref}
use Rattle.words.specs.Table.{entries}
use Rattle.words.specs.Made.{Grown}
use Rattle.wellformed.specs.Form.{well_formed, used_words}
use Rattle.call.specs.Call.{flag, reply_after, call, ask}
use Rattle.wellformed.specs.Entry.{all}
use Rattle.call.specs.Handles.{types_rows}
use Rattle.words.specs.Columns.{kind_on}
use Rattle.call.specs.Adds.{Adds}
use Rattle.parts.specs.Parts.{Good, All}
use Rattle.parts.proofs.Good.{well_good, good_adds, part_below, Answers}
use Rattle.meet.specs.Meet.{meet_of, isa_of}
use Rattle.meet.proofs.Nice.{meet_nice}
use Rattle.walk_rules.specs.declared.Walk.{Walk}
use Rattle.walk_rules.specs.declared.Walk.TheVariants.{Dual, Glb, Lub}
use Rattle.walk.specs.Walk.{walk_of}
use Rattle.walk.proofs.Nice.{walk_nice}
use Rattle.join.specs.Join.{join_of}
use Rattle.join.proofs.Adds.{Given, answered, join_given}
use Rattle.make_ro.specs.ReadOnly.{make_ro_of}
use Rattle.make_ro.proofs.Nice.{make_ro_nice}
use Rattle.every_call.proofs.Parts.{one_part, two_parts}
use Rattle.every_call.proofs.Keeps.{meet_answers}
use Rattle.every_call.specs.MeetList.{meet_list_of, meet_list_rows}
use Rattle.every_call.proofs.MeetList.{list_parts, meet_list_given}
use Rattle.trees.proofs.Order.{Order, le_of_lub, turn}
use Rattle.trees.proofs.Tree.{Ty, any, up, ◌⊑◌, ⊑_order}
use Rattle.trees.proofs.Meet.{Meet}
use Rattle.trees.proofs.Free.{lhi, NoMem, NoFre, meet_no_mem, meet_no_fre}
use Rattle.trees.proofs.Dual.{dual as dualTree, dual_dual, dual_lacks, dual_turns as turns, Join}
use Rattle.meaning.proofs.Store.{Distinct, Typed, tree_on, handle_same, Onward, onward_adds, grown, still, kept}
use Rattle.meaning.proofs.Meets.{Side, meet_right}
use Rattle.meaning.proofs.Walks.{Rel, walk_right}
use Rattle.meaning.proofs.ReadOnly.{ro_above}
use Rattle.meaning.proofs.Joins.{join_right}
use Rattle.every_call.specs.Run.{Call, meet, meet_list, isa, join, dual, glb, lub, make_ro, run, all_typed}
use Rattle.demand3.specs.Demand3.{reaches, leaves, Gave, final_words, Isa, Plain, In, Bracketing, Bracketings, single, pair, whole, none, more, Member, Members, AllPlain, SameSet, Empty, Laws, Demand3}
use Rattle.demand3.proofs.Runs.{Store, Later, start_store, leaves_store, gave_at}
use Rattle.demand3.proofs.Accepted.{accepted}
use Rattle.demand3.proofs.Reaching.{no_mem, no_fre}
use Rattle.demand3.proofs.Lists.{Among, top_tree, list_bound}

-- a store that calls made, as its used words
distinct : (ws : List ℕ) → Store ws → Distinct (used_words ws)
distinct ws s = record { good = well_good ws s.well; own = s.own; ends = s.ends }

-- an asking call that answered yes: no row turned it back
asked : (k : ℕ) (b : Bool) → reply_after k (flag b) ≡ flag true → (k ≡ 0) × (b ≡ true)
asked zero b e = (refl, cc)
asked (suc k) b e = let z : ◌≡◌ {A = ℕ} 0 1 = cc in absurd (omega arith)

module _ (cs : List Call) (typed : all_typed cs ≡ true) (ws : List ℕ) (s : Store ws) where
  abbrev final : List ℕ
  final = leaves run cs ws

  abbrev u : List ℕ
  u = final_words run cs ws

  S : Distinct u
  S = distinct final (leaves_store cs typed ws s).0

  well : well_formed final ≡ true
  well = (leaves_store cs typed ws s).0.well

  abbrev T : ℕ → Ty
  T = tree_on u

  -- ---- an accepted call of the list that makes entries: what it made, seen from the end

  record Ran (rows : List ℕ → ℕ) (op : List ℕ → Grown) (h : ℕ) : Type 0 where
    v : List ℕ
    store : Distinct v
    none : rows v ≡ 0
    is : h ≡ (op v).handle
    before : Onward v u
    behind : Onward (op v).words u

  ran : (c : Call) (rows : List ℕ → ℕ) (op : List ℕ → Grown) (h : ℕ) → ((vs : List ℕ) → run c vs ≡ call rows op vs) → ((v : List ℕ) → Good v → rows v ≡ 0 → Adds v (op v)) → Gave run cs ws c h → Ran rows op h
  ran c rows op h does adds g =
      let w = gave_at cs typed ws c h s g in
      let vs = w.0 in
      let D = distinct vs w.1 in
      let a = accepted rows op vs h w.1.well (λ x q. adds (used_words vs) D.good q) (rw (does vs) at w.2) in
      let on : Later (call rows op vs).words final = rw (does vs) at w.3 in
      let ad = adds (used_words vs) D.good a.none in
      let e : entries u ≡ entries (op (used_words vs)).words ++ on.extra = on.rows ∙ rw a.table in
      record {
        v = used_words vs;
        store = D;
        none = a.none;
        is = a.is;
        before = record { extra = ad.extra ++ on.extra; rows = e ∙ rw ad.rows (append_assoc (entries (used_words vs)) ad.extra on.extra) };
        behind = record { extra = on.extra; rows = e };
      }

  -- a type that the call came to, and the one that it handed back
  module _ {rows : List ℕ → ℕ} {op : List ℕ → Grown} {h : ℕ} (r : Ran rows op h) where
    came : (x : ℕ) → Typed r.v x → Typed u x × (T x ≡ tree_on r.v x)
    came x p = (still r.store.good S.good r.before x p, kept r.store.good S.good r.before x p)

    gone : Given r.v (op r.v) → Typed u h × (T h ≡ tree_on (op r.v).words (op r.v).handle)
    gone x =
        let g = good_adds r.store.good x.adds in
        rw r.is (still g S.good r.behind (op r.v).handle x.part, kept g S.good r.behind (op r.v).handle x.part)

  -- ---- calls on one type: dual, glb, lub and make_ro

  record One (R : Ty → Ty → Type 0) (a c : ℕ) : Type 0 where
    operand : Typed u a
    answer : Typed u c
    related : R (T a) (T c)

  module _ (R : Ty → Ty → Type 0) (op : List ℕ → ℕ → Grown) (given : (v : List ℕ) (a : ℕ) → Good v → Typed v a → Given v (op v a))
      (right : (v : List ℕ) (a : ℕ) → Distinct v → Typed v a → R (tree_on v a) (tree_on (op v a).words (op v a).handle)) where
    one : (k : Call) (a c : ℕ) → ((vs : List ℕ) → run k vs ≡ call (types_rows (a ∷ [])) (λ v. op v a) vs) → Gave run cs ws k c → One R a c
    one k a c does g =
        let r = ran k (types_rows (a ∷ [])) (λ v. op v a) c does (λ v good q. (given v a good (one_part a v good q)).adds) g in
        let p = one_part a r.v r.store.good r.none in
        let in-a = came r a p in
        let out = gone r (given r.v a r.store.good p) in
        record { operand = in-a.0; answer = out.0; related = rw (in-a.1, out.1) (right r.v a r.store p) }

  walked : (w : Walk) (k : Call) (a c : ℕ) → ((vs : List ℕ) → run k vs ≡ call (types_rows (a ∷ [])) (λ v. walk_of w v a) vs) → Gave run cs ws k c → One (Rel w) a c
  walked w =
      one (Rel w) (walk_of w) (λ v a good p. answered ((walk_nice w (suc a)).types v a 33 good (part_below (suc a) (omega arith) p)))
      (λ v a store p. walk_right w (suc a) v a store (part_below (suc a) (omega arith) p))

  read_only : (a c : ℕ) → Gave run cs ws (make_ro a) c → One ◌⊑◌ a c
  read_only a c =
      one ◌⊑◌ make_ro_of (λ v x good p. answered ((make_ro_nice (suc x)).types v x 33 good (part_below (suc x) (omega arith) p)))
      (λ v x store p. ro_above (suc x) v x store (part_below (suc x) (omega arith) p))
      (make_ro a) a c (λ vs. refl)

  -- ---- calls on two: meet and join

  record Two (op : List ℕ → ℕ → ℕ → Grown) (a b c : ℕ) : Type 0 where
    v : List ℕ
    store : Distinct v
    at_a : Typed v a
    at_b : Typed v b
    answer : Typed u c
    is_a : T a ≡ tree_on v a
    is_b : T b ≡ tree_on v b
    is_c : T c ≡ tree_on (op v a b).words (op v a b).handle

  two : (op : List ℕ → ℕ → ℕ → Grown) → ((v : List ℕ) (a b : ℕ) → Good v → Typed v a → Typed v b → Given v (op v a b)) → (k : Call) (a b c : ℕ)
      → ((vs : List ℕ) → run k vs ≡ call (types_rows (a ∷ b ∷ [])) (λ v. op v a b) vs) → Gave run cs ws k c → Two op a b c
  two op given k a b c does g =
      let r = ran k (types_rows (a ∷ b ∷ [])) (λ v. op v a b) c does (λ v good q. let p = two_parts a b v good q in (given v a b good p.0 p.1).adds) g in
      let p = two_parts a b r.v r.store.good r.none in
      let in-a = came r a p.0 in
      let in_b = came r b p.1 in
      let out = gone r (given r.v a b r.store.good p.0 p.1) in
      record {
        v = r.v;
        store = r.store;
        at_a = p.0;
        at_b = p.1;
        answer = out.0;
        is_a = in-a.1;
        is_b = in_b.1;
        is_c = out.1;
      }

  met : (a b c : ℕ) → Gave run cs ws (meet a b) c → Typed u c × (Side (T a) (T b) → Meet (T a) (T b) (T c))
  met a b c g =
      let t = two meet_of (λ v x y good p q. answered (meet_nice (suc (max x y)) v x y 33 good (part_below (suc (max x y)) (omega arith) p) (part_below (suc (max x y)) (omega arith) q))) (meet a b) a b c (λ vs. refl) g in
      let n = suc (max a b) in
      (t.answer, λ side. rw (t.is_a, t.is_b, t.is_c) (meet_right n t.v a b t.store (part_below n (omega arith) t.at_a) (part_below n (omega arith) t.at_b) (rw (t.is_a, t.is_b) at side)))

  -- types that reach no memory type and no forward reference
  record Fine (h : ℕ) : Type 0 where
    type : Typed u h
    memory : NoMem (T h)
    forward : NoFre (T h)

  fine : {h : ℕ} → Plain run cs ws h → Fine h
  fine {h} p =
      let t = one_part h u S.good p.type in
      record { type = t; memory = no_mem S.good h t p.memory; forward = no_fre S.good h t p.forward }

  joined : (a b c : ℕ) → Gave run cs ws (join a b) c → Fine a → Fine b → Fine c × Join (T a) (T b) (T c)
  joined a b c g fa fb =
      let t = two join_of (λ v x y good p q. join_given v x y good p q) (join a b) a b c (λ vs. refl) g in
      let j = join_right t.v a b t.store t.at_a t.at_b (rw t.is_a at fa.forward) (rw t.is_b at fb.forward) (rw t.is_a at fa.memory) (rw t.is_b at fb.memory) in
      (record { type = t.answer; memory = rw t.is_c j.1; forward = rw t.is_c j.2 }, rw (t.is_a, t.is_b, t.is_c) j.0)

  -- ---- isa is the order of the trees, where one of the two reaches no memory type

  rows_none : (a b : ℕ) → Typed u a → Typed u b → types_rows (a ∷ b ∷ []) u ≡ 0
  unfolding types_rows all
  rows_none a b p q =
      rw (p.entry, q.entry, le-leb 1 (kind_on u a) p.least, le-leb (kind_on u a) 11 p.most, le-leb 1 (kind_on u b) q.least, le-leb (kind_on u b) 11 q.most)

  answer : (a b : ℕ) → (run (isa a b) final).reply ≡ reply_after (types_rows (a ∷ b ∷ []) u) (flag (isa_of u a b))
  unfolding ask
  answer a b = rw well

  module _ (a b : ℕ) (p : Typed u a) (q : Typed u b) (side : Side (T a) (T b)) where
    abbrev n : ℕ
    n = suc (max a b)

    abbrev g : Grown
    g = meet_of u a b

    x : Answers u 33 1 11 g
    x = meet_answers u a b S.good (rows_none a b p q)

    m : Meet (T a) (T b) (tree_on g.words g.handle)
    m = meet_right n u a b S (part_below n (omega arith) p) (part_below n (omega arith) q) side

    same : tree_on g.words b ≡ T b
    same = kept S.good (good_adds S.good x.adds) (onward_adds x.adds) b q

    below_isa : T a ⊑ T b → isa_of u a b ≡ true
    below_isa l =
        let e : tree_on g.words g.handle ≡ tree_on g.words b = le_of_lub ◌⊑◌ ⊑_order m l ∙ sym same in
        eq-eqb g.handle b (handle_same (grown S x.adds) g.handle b x.part (still S.good (good_adds S.good x.adds) (onward_adds x.adds) b q) e)

    isa_below : isa_of u a b ≡ true → T a ⊑ T b
    isa_below e = let h : tree_on g.words g.handle ≡ T b = ap (tree_on g.words) (eqb-true g.handle b e) ∙ same in rw h at m.left

  isa_of_is : (a b : ℕ) → Typed u a → Typed u b → Side (T a) (T b) → T a ⊑ T b → Isa run cs ws a b
  isa_of_is a b p q side l = answer a b ∙ rw (rows_none a b p q, below_isa a b p q side l)

  of_isa : (a b : ℕ) → Isa run cs ws a b → Typed u a × Typed u b × (Side (T a) (T b) → T a ⊑ T b)
  of_isa a b i =
      let r = asked (types_rows (a ∷ b ∷ []) u) (isa_of u a b) (sym (answer a b) ∙ i) in
      let p = two_parts a b u S.good r.0 in
      (p.0, p.1, λ side. isa_below a b p.0 p.1 side r.1)

  -- ---- bracketings, for meets and for joins: R is the order or the order turned over, P what a bound is asked

  module _ (R : Ty → Ty → Type 0) (O : Order R) (P : Ty → Type 0) (plain : (h : ℕ) → Fine h → P (T h)) (op : ℕ → ℕ → Call)
      (step : (a b c : ℕ) → Gave run cs ws (op a b) c → Fine a → Fine b → Fine c × R (T a) (T c) × R (T b) (T c) × ((t : Ty) → P t → R (T a) t → R (T b) t → R (T c) t))
      (lists : op ≡ meet → (hs : List ℕ) (c : ℕ) → Gave run cs ws (meet_list hs) c → ((x : ℕ) → In x hs → Fine x) → Fine c × ((x : ℕ) → In x hs → R (T x) (T c)) × ((t : Ty) → P t → ((x : ℕ) → In x hs → R (T x) t) → R (T c) t)) where
    mutual
      fine_of : {c : ℕ} (p : Bracketing run cs ws op c) → AllPlain run cs ws p → Fine c
      fine_of (single h) f = fine (f h refl)
      fine_of (pair {a} {b} {c} p q x) f = (step a b c x (fine_of p λ y i. f y (inl i)) (fine_of q λ y i. f y (inr i))).0
      fine_of (whole {hs} {c} e ps x) f = (lists e hs c x (λ k i. each_fine ps f k i)).0

      each_fine : {hs : List ℕ} (ps : Bracketings run cs ws op hs) → ((x : ℕ) → Members run cs ws ps x → Plain run cs ws x) → (k : ℕ) → In k hs → Fine k
      each_fine none f k i = absurd i
      each_fine (more {h} {hs} p ps) f k i = ⊎_elim (λ (e : k ≡ h). rw e (fine_of p λ y j. f y (inl j))) (λ (j : In k hs). each_fine ps (λ y l. f y (inr l)) k j) i

    mutual
      bound : {c : ℕ} (p : Bracketing run cs ws op c) → AllPlain run cs ws p → (x : ℕ) → Member run cs ws p x → R (T x) (T c)
      bound (single h) f x i = rw i (O.rfl (T h))
      bound (pair {a} {b} {c} p q d) f x (inl i) = O.trn (bound p (λ y j. f y (inl j)) x i) (step a b c d (fine_of p λ y j. f y (inl j)) (fine_of q λ y j. f y (inr j))).1
      bound (pair {a} {b} {c} p q d) f x (inr i) = O.trn (bound q (λ y j. f y (inr j)) x i) (step a b c d (fine_of p λ y j. f y (inl j)) (fine_of q λ y j. f y (inr j))).2
      bound (whole {hs} {c} e ps d) f x i =
          let b = one_bound ps f x i in
          O.trn b.2 ((lists e hs c d (each_fine ps f)).1 b.0 b.1)

      -- the one of the list whose set x is in
      one_bound : {hs : List ℕ} (ps : Bracketings run cs ws op hs) → ((x : ℕ) → Members run cs ws ps x → Plain run cs ws x) → (x : ℕ) → Members run cs ws ps x → (h : ℕ) × In h hs × R (T x) (T h)
      one_bound none f x i = absurd i
      one_bound (more {h} p ps) f x (inl i) = (h, inl refl, bound p (λ y j. f y (inl j)) x i)
      one_bound (more p ps) f x (inr i) = let b = one_bound ps (λ y j. f y (inr j)) x i in (b.0, inr b.1, b.2)

    mutual
      least : {c : ℕ} (p : Bracketing run cs ws op c) → AllPlain run cs ws p → (t : Ty) → P t → ((x : ℕ) → Member run cs ws p x → R (T x) t) → R (T c) t
      least (single h) f t o k = k h refl
      least (pair {a} {b} {c} p q d) f t o k =
          (step a b c d (fine_of p λ y j. f y (inl j)) (fine_of q λ y j. f y (inr j))).3 t o (least p (λ y j. f y (inl j)) t o λ x i. k x (inl i)) (least q (λ y j. f y (inr j)) t o λ x i. k x (inr i))
      least (whole {hs} {c} e ps d) f t o k = (lists e hs c d (each_fine ps f)).2 t o (λ l i. each_least ps f t o k l i)

      each_least : {hs : List ℕ} (ps : Bracketings run cs ws op hs) → ((x : ℕ) → Members run cs ws ps x → Plain run cs ws x) → (t : Ty) → P t → ((x : ℕ) → Members run cs ws ps x → R (T x) t) → (l : ℕ) → In l hs → R (T l) t
      each_least none f t o k l i = absurd i
      each_least (more {h} {hs} p ps) f t o k l i = ⊎_elim (λ (e : l ≡ h). rw e (least p (λ y j. f y (inl j)) t o λ x m. k x (inl m))) (λ (j : In l hs). each_least ps (λ y m. f y (inr m)) t o (λ x m. k x (inr m)) l j) i

    one_handle : {c d : ℕ} (p : Bracketing run cs ws op c) (q : Bracketing run cs ws op d) → AllPlain run cs ws p → SameSet run cs ws p q → c ≡ d
    one_handle {c} {d} p q f e =
        let f' : AllPlain run cs ws q = λ x i. f x ((e x).1 i) in
        let wp = fine_of p f in
        let wq = fine_of q f' in
        handle_same S c d wp.type wq.type (O.ant
        (least p f (T d) (plain d wq) λ x i. bound q f' x ((e x).0 i))
        (least q f' (T c) (plain c wp) λ x i. bound p f x ((e x).1 i)))

  -- ---- the steps: of two, and of a list

  meet_step : (a b c : ℕ) → Gave run cs ws (meet a b) c → Fine a → Fine b → Fine c × (T a ⊑ T c) × (T b ⊑ T c) × ((t : Ty) → Unit {0} → T a ⊑ t → T b ⊑ t → T c ⊑ t)
  meet_step a b c g fa fb =
      let x = met a b c g in
      let m = x.1 (inl fa.memory) in
      (record { type = x.0; memory = meet_no_mem m fa.memory fb.memory; forward = meet_no_fre m fa.forward fb.forward }, m.left, m.right, λ t o p q. m.least p q)

  -- the trees of types without memory and forward references
  abbrev Clean : Ty → Type 0
  Clean t = NoMem t × NoFre t

  clean_meet : (a b c : Ty) → Meet a b c → Clean a → Clean b → Clean c
  clean_meet a b c m p q = (meet_no_mem m p.0 q.0, meet_no_fre m p.1 q.1)

  list_step : ◌≡◌ {A = ℕ → ℕ → Call} meet meet → (hs : List ℕ) (c : ℕ) → Gave run cs ws (meet_list hs) c → ((x : ℕ) → In x hs → Fine x) → Fine c × ((x : ℕ) → In x hs → T x ⊑ T c) × ((t : Ty) → Unit {0} → ((x : ℕ) → In x hs → T x ⊑ t) → T c ⊑ t)
  list_step e hs c g f =
      let r = ran (meet_list hs) (meet_list_rows hs) (meet_list_of hs) c (λ vs. refl) (λ v good q. (meet_list_given hs v good q).adds) g in
      let parts = list_parts hs r.v r.store.good r.none in
      let out = gone r (meet_list_given hs r.v r.store.good r.none) in
      let b = list_bound Clean (λ t p. p.0) clean_meet (lhi, lhi) hs r.v r.store (among r hs parts f) in
      let at : (x : ℕ) → In x hs → T x ≡ tree_on r.v x = λ x i. (came r x (part_of hs parts x i)).1 in (
        record { type = out.0; memory = rw out.1 b.known.0; forward = rw out.1 b.known.1 },
        λ x i. rw (at x i, out.1) (b.each x i),
        λ t o k. rw out.1 (b.least t (rw (top_tree r.v r.store.good) (up any)) (λ x i. rw (at x i) at (k x i))),
      )
    where
      part_of : {v : List ℕ} (ks : List ℕ) → All (Typed v) ks → (x : ℕ) → In x ks → Typed v x
      part_of [] ps x i = absurd i
      part_of (k ∷ ks) ps x i = ⊎_elim (λ (e : x ≡ k). rw e ps.0) (λ (j : In x ks). part_of ks ps.1 x j) i

      among : {rows : List ℕ → ℕ} {op : List ℕ → Grown} {c : ℕ} (r : Ran rows op c) (ks : List ℕ) → All (Typed r.v) ks → ((x : ℕ) → In x ks → Fine x) → All (Among Clean (λ t p. p.0) clean_meet r.v) ks
      among r [] ps f = tt
      among r (k ∷ ks) ps f =
          let e = (came r k ps.0).1 in
          let x = f k (inl refl) in
          let clean : Clean (T k) = (x.memory, x.forward) in
          (record { type = ps.0; known = rw e at clean }, among r ks ps.1 (λ y i. f y (inr i)))

  -- no list of joins is merged by one call
  no_list : {X : Type 0} → ◌≡◌ {A = ℕ → ℕ → Call} join meet → X
  no_list e = let q : join 0 0 ≡ meet 0 0 = ap (λ (f : ℕ → ℕ → Call). f 0 0) e in let z : ◌≡◌ {A = ℕ} 0 1 = cc in absurd (omega arith)

  join_step : (a b c : ℕ) → Gave run cs ws (join a b) c → Fine a → Fine b → Fine c × (T c ⊑ T a) × (T c ⊑ T b) × ((t : Ty) → NoFre t → t ⊑ T a → t ⊑ T b → t ⊑ T c)
  join_step a b c g fa fb =
      let x = joined a b c g fa fb in
      let j = x.1 in
      (x.0, j.left, j.right, λ t o p q. j.greatest o p q)

  abbrev Meets : ℕ → Type 0
  Meets = Bracketing run cs ws meet

  abbrev Joins : ℕ → Type 0
  Joins = Bracketing run cs ws join

  meets_whole : {c : ℕ} (p : Meets c) → AllPlain run cs ws p → Fine c
  meets_whole = fine_of ◌⊑◌ ⊑_order (λ t. Unit {0}) (λ h f. tt) meet meet_step list_step

  joins_whole : {c : ℕ} (p : Joins c) → AllPlain run cs ws p → Fine c
  joins_whole = fine_of (λ a b. b ⊑ a) (turn ⊑_order) NoFre (λ h f. f.forward) join join_step (λ e. no_list e)

  -- a bracketing has a member, or is of empty lists alone
  mutual
    member : {op : ℕ → ℕ → Call} {c : ℕ} (p : Bracketing run cs ws op c) → ((x : ℕ) × Member run cs ws p x) ⊎ ((op ≡ meet) × Empty run cs ws p)
    member (single h) = inl (h, refl)
    member (pair p q d) =
        ⊎_elim (λ i. inl (i.0, inl i.1)) (λ n. ⊎_elim (λ j. inl (j.0, inr j.1)) (λ o. inr (n.0, λ x i. ⊎_elim (n.1 x) (o.1 x) i)) (member q)) (member p)
    member (whole e ps d) = ⊎_elim (λ i. inl i) (λ n. inr (e, n)) (members ps)

    members : {op : ℕ → ℕ → Call} {hs : List ℕ} (ps : Bracketings run cs ws op hs) → ((x : ℕ) × Members run cs ws ps x) ⊎ ((x : ℕ) → Members run cs ws ps x → ⊥)
    members none = inr (λ x i. i)
    members (more p ps) =
        ⊎_elim (λ i. inl (i.0, inl i.1)) (λ n. ⊎_elim (λ j. inl (j.0, inr j.1)) (λ o. inr (λ x i. ⊎_elim (n.1 x) (o x) i)) (members ps)) (member p)

  meets_under : {c : ℕ} (p : Meets c) → AllPlain run cs ws p → (t : ℕ) → (Empty run cs ws p → types_rows (t ∷ []) u ≡ 0) → ((x : ℕ) → Member run cs ws p x → Isa run cs ws x t) → Isa run cs ws c t
  meets_under {c} p f t z k =
      let w = meets_whole p f in
      let vt : Typed u t = ⊎_elim (λ (some : (x : ℕ) × Member run cs ws p x). (of_isa some.0 t (k some.0 some.1)).1) (λ n. one_part t u S.good (z n.1)) (member p) in
      isa_of_is c t w.type vt (inl w.memory) (least ◌⊑◌ ⊑_order (λ t. Unit {0}) (λ h f. tt) meet meet_step list_step p f (T t) tt λ x i. (of_isa x t (k x i)).2 (inl (fine (f x i)).memory))

  joins_over : {c : ℕ} (p : Joins c) → AllPlain run cs ws p → (t : ℕ) → reaches u Fref t ≡ false → ((x : ℕ) → Member run cs ws p x → Isa run cs ws t x) → Isa run cs ws t c
  joins_over {c} p f t o k =
      let w = joins_whole p f in
      let vt : Typed u t = ⊎_elim (λ (some : (x : ℕ) × Member run cs ws p x). (of_isa t some.0 (k some.0 some.1)).0) (λ n. no_list n.0) (member p) in
      isa_of_is t c vt w.type (inr w.memory) (least (λ a b. b ⊑ a) (turn ⊑_order) NoFre (λ h f. f.forward) join join_step (λ e. no_list e) p f (T t) (no_fre S.good t vt o) λ x i. (of_isa t x (k x i)).2 (inr (fine (f x i)).memory))

  -- a list as a bracketing: each of its handles is a single type
  singles : (hs : List ℕ) → Bracketings run cs ws meet hs
  singles [] = none
  singles (h ∷ hs) = more (single h) (singles hs)

  singles_in : (hs : List ℕ) (x : ℕ) → Members run cs ws (singles hs) x ↔ In x hs
  unfolding singles
  singles_in [] x = ((λ i. i), λ i. i)
  singles_in (h ∷ hs) x = let i = singles_in hs x in (⊎_map (λ e. e) i.0, ⊎_map (λ e. e) i.1)

  one_list : (hs ks : List ℕ) (c d : ℕ) → Gave run cs ws (meet_list hs) c → Gave run cs ws (meet_list ks) d → ((x : ℕ) → In x hs → Plain run cs ws x) → ((x : ℕ) → In x hs ↔ In x ks) → c ≡ d
  one_list hs ks c d g h f e =
      one_handle ◌⊑◌ ⊑_order (λ t. Unit {0}) (λ k l. tt) meet meet_step list_step (whole refl (singles hs) g) (whole refl (singles ks) h) (λ x i. f x ((singles_in hs x).0 i))
      (λ x. ((λ i. (singles_in ks x).1 ((e x).0 ((singles_in hs x).0 i))), λ i. (singles_in hs x).1 ((e x).1 ((singles_in ks x).0 i))))

  reverses : (a b a' b' : ℕ) → Plain run cs ws a → Plain run cs ws b → Gave run cs ws (dual a) a' → Gave run cs ws (dual b) b' → Isa run cs ws a b ↔ Isa run cs ws b' a'
  reverses a b a' b' p q g h =
      let fa = fine p in
      let fb = fine q in
      let x = walked Dual (dual a) a a' (λ vs. refl) g in
      let y = walked Dual (dual b) b b' (λ vs. refl) h in
      let side : Side (T b') (T a') = inl (rw y.related (dual_lacks fb.memory)) in
      let on : Isa run cs ws a b → T b' ⊑ T a' = λ i. rw (x.related, y.related) (turns ((of_isa a b i).2 (inl fa.memory)) fa.forward) in
      let back : Isa run cs ws b' a' → T a ⊑ T b = λ i. rw (dual_dual (T a), dual_dual (T b)) at (turns (rw (x.related, y.related) at ((of_isa b' a' i).2 side)) (dual_lacks fb.forward)) in
      ((λ i. isa_of_is b' a' y.answer x.answer side (on i)), λ i. isa_of_is a b fa.type fb.type (inl fa.memory) (back i))

  pub laws : Laws run cs ws
  laws = record {
    meets_agree = one_handle ◌⊑◌ ⊑_order (λ t. Unit {0}) (λ h f. tt) meet meet_step list_step;
    meets_above = λ {c} p f x i. isa_of_is x c (fine (f x i)).type (meets_whole p f).type (inr (meets_whole p f).memory) (bound ◌⊑◌ ⊑_order (λ t. Unit {0}) (λ h f. tt) meet meet_step list_step p f x i);
    meets_least = λ {c} p f t z k. meets_under p f t z k;
    lists_agree = one_list;
    joins_agree = one_handle (λ a b. b ⊑ a) (turn ⊑_order) NoFre (λ h f. f.forward) join join_step (λ e. no_list e);
    joins_below = λ {c} p f x i. isa_of_is c x (joins_whole p f).type (fine (f x i)).type (inl (joins_whole p f).memory) (bound (λ a b. b ⊑ a) (turn ⊑_order) NoFre (λ h f. f.forward) join join_step (λ e. no_list e) p f x i);
    joins_greatest = λ {c} p f t o k. joins_over p f t o k;
    dual_back = λ a b c p g h.
        let x = walked Dual (dual a) a b (λ vs. refl) g in
        let y = walked Dual (dual b) b c (λ vs. refl) h in
        handle_same S c a y.answer x.operand (y.related ∙ ap dualTree x.related ∙ dual_dual (T a));
    dual_turns = reverses;
    lub_below = λ t h p g. let x = walked Lub (lub t) t h (λ vs. refl) g in isa_of_is h t x.answer x.operand (inr (fine p).memory) x.related;
    glb_above = λ t h p g. let x = walked Glb (glb t) t h (λ vs. refl) g in isa_of_is t h x.operand x.answer (inl (fine p).memory) x.related;
    read_only_above = λ t h p g. let x = read_only t h g in isa_of_is t h x.operand x.answer (inl (fine p).memory) x.related;
  }

-- the calls are what the functions' contracts say
pub demand3 : Demand3
demand3 ws start cs typed = laws cs typed ws (start_store ws start)
