-- A search for the nodes that a walk reaches and can pass.
use Rattle.std.specs.Prelude.{ℕ, ◌≡◌, ◌↔◌, ◌⊎◌, Bool, true, false, List, [], ◌∷◌, ◌++◌, Option, Some, None}
use Rattle.std.proofs.Common.{inl, inr, refl, sym, ap, subst, ◌∙◌, arith}
use Rattle.hmsc_graph.specs.Graphs.{Net, Spot, At, To, WalkThrough, behind}
use Rattle.hmsc_graph.specs.Searches.{HasEntered}
use Rattle.hmsc_graph.specs.declared.search.Traversal.{Traversal}
use Rattle.hmsc_graph.proofs.MemberFacts.{pushed_in}
use Rattle.hmsc_graph.proofs.SearchFacts.{search_on, search_past, search_ended}
use Rattle.msc_base.specs.Lists.{IsIn}
use Rattle.list_facts.proofs.Members.{among_left, among_snoc}
use Rattle.chart_term.specs.NormalForms.{some_kept}
use Rattle.chart_term.specs.Terms.{Tree}
use Rattle.term_permission.specs.Passing.{ArePassable, IsPassing, HasVisited, HaveCommon}
use Rattle.term_permission.specs.Remnants.{is_full, RemnantSays}
use Rattle.term_permission.specs.declared.passing.Passable.{Passable}
use Rattle.term_permission.specs.declared.remnant.Remnant.{Remnant}
use Rattle.term_permission.specs.declared.remnant.Remnant.TheVariants as remnant

-- a member that is added under a test
pub added : (P A B : Type 0) (t : Bool) → (P ↔ (A ⊎ B)) → t ≡ true → (P ↔ (A ⊎ (B × (t ≡ true))))
added P A B t h e = (λ p. elim (h.0 p) [ inl a ↦ inl a | inr b ↦ inr (b, e) ], λ q. elim q [ inl a ↦ h.1 (inl a) | inr b ↦ h.1 (inr b.0) ])

-- what a remnant says
pub says_none : (left : Remnant) (o : Option Tree) → left ≡ remnant.Fails → RemnantSays left o → o ≡ None
says_none left o e h = subst (λ (r : Remnant). RemnantSays r o) e h

pub says_empty : (left : Remnant) (o : Option Tree) → left ≡ remnant.Empty → RemnantSays left o → (some_kept o ≡ true) × (is_full o ≡ false)
says_empty left o e h = subst (λ (r : Remnant). RemnantSays r o) e h

pub says_more : (left : Remnant) (o : Option Tree) → left ≡ remnant.More → RemnantSays left o → is_full o ≡ true
says_more left o e h = subst (λ (r : Remnant). RemnantSays r o) e h

pub full_kept : (o : Option Tree) → is_full o ≡ true → some_kept o ≡ true
full_kept None h = cc
full_kept (Some x) h = refl

-- where nothing waits all are found
pub passing_ended : (g : Net) (allowed : List ℕ) (kept : ℕ → Option Tree) (from : Spot) (reached waits passed full : List ℕ) → waits ≡ [] → IsPassing g allowed kept from reached waits passed full → ArePassable g allowed kept from passed full
passing_ended g allowed kept from reached waits passed full e h = record {
  passes = λ m. (λ i. let p = h.passes m i in ((exact m).0 p.0, p.1), λ p. (known m ((exact m).1 p.0) p.1).0);
  fills = λ m. (h.fills m, λ p. let q = h.passes m p.0 in (known m q.0 q.1).1 p.1);
}
  where
    exact : (m : ℕ) → IsIn m reached ↔ WalkThrough g allowed from (To m)
    exact = search_ended g allowed from reached waits e h.search

    known : (m : ℕ) → IsIn m reached → IsIn m allowed → IsIn m passed × (is_full (kept m) ≡ true → IsIn m full)
    known m i a = elim (h.asked m i) [ inl n ↦ absurd (subst (λ l. IsIn m l) e n) | inr d ↦ d a ]

module _ (g : Net) (node : ℕ) (left : Remnant) (was : Traversal) (had : Passable) where
  -- a node that can't be passed
  pub visited_out : left ≡ remnant.Fails → HasVisited g node left was had was had
  visited_out e = record {
    size = refl;
    reached = refl;
    work = omega arith;
    passing = past;
  }
    where
      past : (allowed : List ℕ) (kept : ℕ → Option Tree) (from : Spot) → (IsIn node allowed ↔ (some_kept (kept node) ≡ true)) → RemnantSays left (kept node)
          → IsPassing g allowed kept from was.reached.nodes (was.waiting.items ++ node ∷ []) had.passed.nodes had.full → IsPassing g allowed kept from was.reached.nodes was.waiting.items had.passed.nodes had.full
      past allowed kept from al says h = record {
        search = search_past g allowed from was.reached (was.waiting.items ++ node ∷ []) was.waiting.items node refl h.search shut;
        passes = h.passes;
        fills = h.fills;
        asked = λ m i. elim (h.asked m i) [
          | inl n ↦ elim (among_snoc was.waiting.items node m n) [ inl o ↦ inl o | inr q ↦ inr (λ a. absurd (shut (subst (λ (k : ℕ). IsIn k allowed) q a))) ]
          | inr d ↦ inr d
        ];
      }
        where
          shut : IsIn node allowed → ⊥
          shut a = let none : kept node ≡ None = says_none left (kept node) e says in let some : some_kept (kept node) ≡ true = al.0 a in let q : some_kept (kept node) ≡ false = ap some_kept none in cc

  -- a node that is passed
  module _ (is : Traversal) (has : Passable) (size : has.passed.size ≡ had.passed.size) (passed : (n : ℕ) → IsIn n has.passed.nodes ↔ (IsIn n had.passed.nodes ⊎ (n ≡ node))) (entered : HasEntered (behind g (At node)) was.reached was.waiting.items is.reached is.waiting.items) where
    visited_on : ((o : Option Tree) → RemnantSays left o → some_kept o ≡ true) → ((o : Option Tree) → RemnantSays left o → (m : ℕ) → IsIn m has.full ↔ (IsIn m had.full ⊎ ((m ≡ node) × (is_full o ≡ true)))) → HasVisited g node left was had is has
    visited_on some fulls = record {
      size = size;
      reached = entered.size;
      work = entered.work;
      passing = on;
    }
      where
        on : (allowed : List ℕ) (kept : ℕ → Option Tree) (from : Spot) → (IsIn node allowed ↔ (some_kept (kept node) ≡ true)) → RemnantSays left (kept node)
            → IsPassing g allowed kept from was.reached.nodes (was.waiting.items ++ node ∷ []) had.passed.nodes had.full → IsPassing g allowed kept from is.reached.nodes is.waiting.items has.passed.nodes has.full
        on allowed kept from al says h = record {
          search = search_on g allowed from was.reached (was.waiting.items ++ node ∷ []) was.waiting.items node refl h.search is.reached is.waiting.items there entered;
          passes = λ m i. elim ((passed m).0 i) [
            | inl o ↦ let p = h.passes m o in (entered.kept m p.0, p.1)
            | inr e ↦ (entered.kept m (h.search.due m (pushed_in m node was.waiting.items e)), subst (λ (k : ℕ). IsIn k allowed) (sym e) there)
          ];
          fills = λ m i. elim ((full m).0 i) [ inl o ↦ let p = h.fills m o in ((passed m).1 (inl p.0), p.1) | inr p ↦ ((passed m).1 (inr p.0), ap (λ k. is_full (kept k)) p.0 ∙ p.1) ];
          asked = λ m i. elim (entered.fresh m i) [
            | inl o ↦ elim (h.asked m o) [
              | inl n ↦ elim (among_snoc was.waiting.items node m n) [
                | inl l ↦ inl (entered.waiting m l)
                | inr e ↦ inr (λ a. ((passed m).1 (inr e), λ f. (full m).1 (inr (e, ap (λ k. is_full (kept k)) (sym e) ∙ f))))
              ]
              | inr d ↦ inr (λ a. let p = d a in ((passed m).1 (inl p.0), λ f. (full m).1 (inl (p.1 f))))
            ]
            | inr n ↦ inl n
          ];
        }
          where
            there : IsIn node allowed
            there = al.1 (some (kept node) says)

            full : (m : ℕ) → IsIn m has.full ↔ (IsIn m had.full ⊎ ((m ≡ node) × (is_full (kept node) ≡ true)))
            full = fulls (kept node) says

    -- one that leaves only the empty pattern
    pub visited_empty : left ≡ remnant.Empty → has.full ≡ had.full → HasVisited g node left was had is has
    visited_empty e same = visited_on (λ o h. (says_empty left o e h).0) (λ o h m. (
      λ i. inl (subst (λ l. IsIn m l) same i),
      λ p. elim p [ inl i ↦ subst (λ l. IsIn m l) (sym same) i | inr q ↦ let f : is_full o ≡ false = (says_empty left o e h).1 in let t : is_full o ≡ true = q.1 in cc ],
    ))

    -- one that leaves more
    pub visited_more : left ≡ remnant.More → has.full ≡ had.full ++ node ∷ [] → HasVisited g node left was had is has
    visited_more e new = visited_on (λ o h. full_kept o (says_more left o e h)) (λ o h m. (
      λ i. elim (among_snoc had.full node m (subst (λ l. IsIn m l) new i)) [ inl l ↦ inl l | inr q ↦ inr (q, says_more left o e h) ],
      λ p. subst (λ l. IsIn m l) (sym new) (elim p [ inl i ↦ among_left had.full (node ∷ []) m i | inr q ↦ pushed_in m node had.full q.0 ]),
    ))

-- no member is in both lists so far
pub no_common_more : (ns more set : List ℕ) (x : ℕ) → more ≡ ns ++ x ∷ [] → (HaveCommon ns set → ⊥) → (IsIn x set → ⊥) → HaveCommon more set → ⊥
no_common_more ns more set x is none shut h = elim (among_snoc ns x h.0 (subst (λ l. IsIn h.0 l) is h.1)) [
  | inl i ↦ none (h.0, i, h.2)
  | inr e ↦ shut (subst (λ (m : ℕ). IsIn m set) e h.2)
]
