use Rattle.std.proofs.Common.{rules, ◌≡◌, ℕ, ◌≤◌, ◌+◌, ◌++◌, ◌∷◌, [], List, length, get_or, drop, arith, ◌∙◌, Some, refl, append-nil, append_assoc, ap, Vec, Global, slice_get, Result, Ok, Err, IfOk}
use Rattle.std.proofs.lemmas.Option.{slice_get_within, get_or_from_slice_get, slice_get_read}
use Rattle.column_order.specs.Answers.{IfWhole, IfStuck}
use Rattle.column_order.specs.declared.sorting.Sorted.{Sorted}
use Rattle.column_order.specs.declared.sorting.Sorted.TheVariants.{Whole, Stuck}
use Rattle.std.proofs.lemmas.List.{drop_more, drop_all}
use Rattle.column_order.specs.declared.edge.Edge.{Edge}
use Rattle.column_order.specs.Counts.{EdgeLeads}
use Rattle.column_order.specs.Columns.{all_neighbours, items_of, neighbours}
use Rattle.column_order.specs.Weaving.{IsWoven, IsCrossedAt, ColumnsOrder}
use Rattle.column_order.specs.Orders.{IsWhole, IsStuckAt}
use Rattle.column_order.proofs.Columns.{columns_made, woven, neighbours_inside}
use Rattle.column_order.proofs.Exchange.{whole_far, stuck_far}
use Rattle.column_order.proofs.weaving.weave.Goals as goal

step : (es new ns : List Edge) (rest all : List Edge) → new ≡ es ++ ns → es ++ (ns ++ rest) ≡ all → new ++ rest ≡ all
step es new ns rest all e h = rw (e, append_assoc) h

more_columns : (vs : List (Vec ℕ Global)) (i : ℕ) (v : Vec ℕ Global) → slice_get vs i ≡ Some v → all_neighbours (items_of (drop i vs)) ≡ neighbours v.items ++ all_neighbours (items_of (drop (i + 1) vs))
more_columns vs i v at =
    let more : drop i vs ≡ get_or vs i v ∷ drop (i + 1) vs = drop_more vs i v (slice_get_within vs i v at) in
    let is : get_or vs i v ≡ v = get_or_from_slice_get vs i v v at in
    ap (λ (l : List (Vec ℕ Global)). all_neighbours (items_of l)) (more ∙ ap (λ (w : Vec ℕ Global). w ∷ drop (i + 1) vs) is)

pub loop-column-preserved : goal.loop-column-preserved
loop-column-preserved c =
    let vs = c.args.columns.now in
    let i = c.loop-column.column-index in
    let v = c.column-item.result in
    let es = c.loop-column.edges.items in
    let at : slice_get vs i ≡ Some v = slice_get_read vs (length vs) i v refl (omega arith) c.column-item.is in
    let pushed : c.add_column.new.edges.items ≡ es ++ neighbours v.items = search rules in
    let h : es ++ (neighbours v.items ++ all_neighbours (items_of (drop (i + 1) vs))) ≡ all_neighbours (items_of vs) = rw (more_columns vs i v at) at c.loop-column.invariant in
    step es c.add_column.new.edges.items (neighbours v.items) (all_neighbours (items_of (drop (i + 1) vs))) (all_neighbours (items_of vs)) pushed h

if_whole : {E : Type 0} (r : Result Sorted E) (P Q : Vec ℕ Global → Type 0) → ((o : Vec ℕ Global) → P o → Q o) → IfOk r (λ s. IfWhole s P) → IfOk r (λ s. IfWhole s Q)
if_whole (Ok (Whole v)) P Q f h = f v h
if_whole (Ok (Stuck x)) P Q f h = h
if_whole (Err e) P Q f h = h

if_stuck : {E : Type 0} (r : Result Sorted E) (P Q : ℕ → Type 0) → ((o : ℕ) → P o → Q o) → IfOk r (λ s. IfStuck s P) → IfOk r (λ s. IfStuck s Q)
if_stuck (Ok (Whole v)) P Q f h = h
if_stuck (Ok (Stuck x)) P Q f h = f x h
if_stuck (Err e) P Q f h = h

all_edges : (es : List Edge) (vs : List (Vec ℕ Global)) (i : ℕ) → length vs ≤ i → es ++ all_neighbours (items_of (drop i vs)) ≡ all_neighbours (items_of vs) → es ≡ all_neighbours (items_of vs)
all_edges es vs i le h = let none : drop i vs ≡ [] = drop_all i vs le in let h' : es ++ [] ≡ all_neighbours (items_of vs) = rw none at h in rw append-nil at h'

pub sort_edges-requires-clause-inside : goal.sort_edges-requires-clause-inside
sort_edges-requires-clause-inside c =
    let columns = items_of c.args.columns.now in
    let edges : c.deref-3.result.now ≡ all_neighbours columns = c.deref-3.ensures.value ∙ all_edges c.loop-column.edges.items c.args.columns.now c.loop-column.column-index (omega arith) c.loop-column.invariant in
    rw edges (neighbours_inside c.args.count columns c.requires.inside)

pub returns-clause-woven : goal.returns-clause-woven
returns-clause-woven c =
    let n = c.args.count in
    let columns = items_of c.args.columns.now in
    let edges : c.deref-3.result.now ≡ all_neighbours columns = c.deref-3.ensures.value ∙ all_edges c.loop-column.edges.items c.args.columns.now c.loop-column.column-index (omega arith) c.loop-column.invariant in
    if_whole c.sort_edges.result (λ o. IsWhole n (EdgeLeads (all_neighbours columns)) o.items) (λ o. IsWoven n columns o.items)
    (λ o w. woven n columns o.items c.requires.inside (whole_far n (EdgeLeads (all_neighbours columns)) (ColumnsOrder columns) (columns_made columns) o.items w))
    (rw edges at c.sort_edges.ensures.whole)

pub returns-clause-crossed : goal.returns-clause-crossed
returns-clause-crossed c =
    let n = c.args.count in
    let columns = items_of c.args.columns.now in
    let edges : c.deref-3.result.now ≡ all_neighbours columns = c.deref-3.ensures.value ∙ all_edges c.loop-column.edges.items c.args.columns.now c.loop-column.column-index (omega arith) c.loop-column.invariant in
    if_stuck c.sort_edges.result (IsStuckAt n (EdgeLeads (all_neighbours columns))) (IsCrossedAt n columns)
    (λ x w. stuck_far n (EdgeLeads (all_neighbours columns)) (ColumnsOrder columns) (columns_made columns) x w)
    (rw edges at c.sort_edges.ensures.stuck)
