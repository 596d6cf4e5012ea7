use Rattle.std.proofs.Common.{rules, ◌≡◌, ℕ, ◌+◌, ◌++◌, ◌∷◌, [], List, get_or, drop, arith, subst, Option, Some, None, refl, append-nil, append_assoc}
use Rattle.std.proofs.lemmas.List.{drop_more, drop_all}
use Rattle.column_order.specs.declared.edge.Edge.{Edge}
use Rattle.column_order.specs.Columns.{onward, neighbours, from_to}
use Rattle.column_order.proofs.weaving.add_column.Goals as goal
use Rattle.column_order.proofs.weaving.add_column.Goals.{in-Some+in_ok-push, in_default}

ended : (earlier : Option ℕ) → onward earlier [] ≡ []
ended None = refl
ended (Some c) = refl

step_some : (es new : List Edge) (earlier : Option ℕ) (f t : ℕ) (ts : List ℕ) (all : List Edge) → earlier ≡ Some f → new ≡ es ++ record { from = f; to = t } ∷ [] → es ++ onward earlier (t ∷ ts) ≡ all → new ++ onward (Some t) ts ≡ all
step_some es new None f t ts all e n h = cc
step_some es new (Some g) f t ts all e n h =
    let is : g ≡ f = cc in
    let h' : es ++ (record { from = f; to = t } ∷ from_to t ts) ≡ all = subst (λ (z : ℕ). es ++ (record { from = z; to = t } ∷ from_to t ts) ≡ all) is h in
    rw (n, append_assoc) h'

step_none : (es new : List Edge) (earlier : Option ℕ) (t : ℕ) (ts : List ℕ) (all : List Edge) → earlier ≡ None → new ≡ es → es ++ onward earlier (t ∷ ts) ≡ all → new ++ onward (Some t) ts ≡ all
step_none es new None t ts all e n h = rw n h
step_none es new (Some g) t ts all e n h = cc

pub loop-item-preserved : goal.loop-item-preserved
loop-item-preserved c =
    let i = c.loop-item.item-index in
    let t = get_or c.args.column.now i 0 in
    let ts = drop (i + 1) c.args.column.now in
    let all = c.args.edges.now.items ++ neighbours c.args.column.now in
    let more : drop i c.args.column.now ≡ t ∷ ts = drop_more c.args.column.now i 0 (omega arith) in
    let h : c.loop-item.edges.items ++ onward c.loop-item.earlier (t ∷ ts) ≡ all = rw more at c.loop-item.invariant in
    elim c.match-earlier.branch [
      | in-Some+in_ok-push w ↦ step_some c.loop-item.edges.items c.match-earlier.edges.items c.loop-item.earlier w.in-Some.from t ts all w.in-Some.is (search rules) h
      | in_default w ↦ step_none c.loop-item.edges.items c.match-earlier.edges.items c.loop-item.earlier t ts all (search rules) (search rules) h
    ]

pub returns : goal.returns
returns c =
    let none : drop c.loop-item.item-index c.args.column.now ≡ [] = drop_all c.loop-item.item-index c.args.column.now (omega arith) in
    let h : c.loop-item.edges.items ++ onward c.loop-item.earlier [] ≡ c.args.edges.now.items ++ neighbours c.args.column.now = rw none at c.loop-item.invariant in
    rw (ended c.loop-item.earlier, append-nil) at h
