use Rattle.std.proofs.Common.{rules, ◌≡◌, ℕ, ◌<◌, ◌+◌, ◌++◌, ◌∷◌, [], List, get_or, drop, arith, subst, Some, Vec, Global, slice_get, inl, inr, refl}
use Rattle.std.proofs.lemmas.List.{drop_more, drop_all, append-nil}
use Rattle.std.proofs.lemmas.Option.{slice_get_read}
use Rattle.column_order.specs.declared.edge.Edge.{Edge}
use Rattle.column_order.specs.Counts.{targets}
use Rattle.column_order.proofs.Steps.{each_snoc, at_set, listed, skipped}
use Rattle.column_order.proofs.sorting.targets_of.Goals as goal

nothing : (xs : List (Vec ℕ Global)) → xs ≡ [] → (x : ℕ) (list : Vec ℕ Global) → slice_get xs x ≡ Some list → list.items ≡ []
nothing [] e x list h = cc
nothing (y ∷ ys) e x list h = cc

pub loop-init : goal.loop-init
loop-init c = record { len = search rules; none = nothing c.new-lists.result.items c.new-lists.ensures.items }

pub loop-preserved : goal.loop-preserved
loop-preserved c =
    let pushed : c.push.new.self.items ≡ c.loop.lists.items ++ c.new.result ∷ [] = search rules in
    record { len = search rules; none = rw pushed (each_snoc (λ (v : Vec ℕ Global). v.items ≡ []) c.loop.lists.items c.new.result c.loop.invariant.none c.new.ensures.items) }

pub loop-edge-init : goal.loop-edge-init
loop-edge-init c = record { len = search rules; targets = λ x list h. rw (c.loop.invariant.none x list h) refl }

pub loop-edge-preserved : goal.loop-edge-preserved
loop-edge-preserved c =
    let edges = c.args.edges.now in
    let i = c.loop-edge.edge-index in
    let e0 : Edge = record { from = 0; to = 0 } in
    let e = get_or edges i e0 in
    let es = drop (i + 1) edges in
    let old = c.loop-edge.lists.items in
    let more : drop i edges ≡ e ∷ es = drop_more edges i e0 (omega arith) in
    let h : (x : ℕ) (list : Vec ℕ Global) → slice_get old x ≡ Some list → list.items ++ targets (e ∷ es) x ≡ targets edges x
    = subst (λ (l : List Edge). (x : ℕ) (list : Vec ℕ Global) → slice_get old x ≡ Some list → list.items ++ targets l x ≡ targets edges x) more c.loop-edge.invariant.targets in
    let was = c.index_mut-list.result.now in
    let new = c.push-in-loop-edge.new.self in
    let pushed : new.items ≡ was.items ++ e.to ∷ [] = search rules in
    let low : e.from < c.args.count = c.requires.inside i e0 (omega arith) in
    let there : slice_get old e.from ≡ Some was = slice_get_read old c.args.count e.from was (search rules) low c.index_mut-list.ensures.value in
    record {
      len = search rules;
      targets = λ x list at. elim (at_set old e.from new x list at) [
        | inl p ↦
            let at0 : slice_get old x ≡ Some was = subst (λ (z : ℕ). slice_get old z ≡ Some was) p.0 there in
            let r : (was.items ++ e.to ∷ []) ++ targets es x ≡ targets edges x = listed e es x was.items (targets edges x) p.0 (h x was at0) in
            let r' : new.items ++ targets es x ≡ targets edges x = rw pushed r in
            subst (λ (v : Vec ℕ Global). v.items ++ targets es x ≡ targets edges x) p.1 r'
        | inr p ↦ skipped e es x list.items (targets edges x) p.0 (h x list p.1)
      ];
    }

pub returns-clause-targets : goal.returns-clause-targets
returns-clause-targets c =
    let none : drop c.loop-edge.edge-index c.args.edges.now ≡ [] = drop_all c.loop-edge.edge-index c.args.edges.now (omega arith) in
    λ x list h. let r : list.items ++ targets (drop c.loop-edge.edge-index c.args.edges.now) x ≡ targets c.args.edges.now x = c.loop-edge.invariant.targets x list h in
    rw (none, append-nil) at r
