use Rattle.std.proofs.Common.{rules, ◌≡◌, ◌<◌, ◌∙◌, All, List, ℕ, IfOk, length, map, ap, ap₂, sym, subst}
use Rattle.column_order.specs.Answers.{IfStuck, IfWhole}
use Rattle.column_order.specs.Columns.{columns_from}
use Rattle.column_order.specs.Weaving.{IsCrossedAt, IsWoven}
use Rattle.column_order.specs.declared.edge.Edge.{Edge}
use Rattle.msc_meaning.specs.LevelItems.{Entry, columns_of}
use Rattle.level_pieces.specs.ItemEdges.{item_edges}
use Rattle.level_pieces.specs.PieceViews.{part_view}
use Rattle.level_pieces.proofs.ColumnLaws.{columns_are, edges_low}
use Rattle.level_pieces.proofs.columns.woven_order.Goals as goal

pub weave_entries-requires : goal.weave_entries-requires
weave_entries-requires c =
    let es : List Entry = map part_view c.args.parts.now in
    let table : c.in_ok-table.table ≡ c.args.names.now = c.in_ok-table.ensures in
    let edges : c.as_slice.result.now ≡ item_edges c.args.names.now es =
    c.as_slice.ensures.value ∙ c.in_ok-edges.ensures ∙ ap (λ (t : List (List ℕ)). item_edges t es) table in
    let count : c.in_ok-count.count ≡ c.args.items = search rules in
    let columns : c.in_ok-columns.columns ≡ length c.args.names.now = search (rules, table) in
    let low : All (λ (e : Edge). (e.from < length c.args.names.now) × (e.to < c.args.items)) (item_edges c.args.names.now es) = edges_low c.args.names.now es c.args.items c.requires.inside in
    record {
      inside = subst (λ (ds : List Edge). All (λ (e : Edge). (e.from < c.in_ok-columns.columns) × (e.to < c.in_ok-count.count)) ds) (sym edges)
          (subst (λ (n : ℕ). All (λ (e : Edge). (e.from < n) × (e.to < c.in_ok-count.count)) (item_edges c.args.names.now es)) (sym columns)
          (subst (λ (n : ℕ). All (λ (e : Edge). (e.from < length c.args.names.now) × (e.to < n)) (item_edges c.args.names.now es)) (sym count) low));
    }

pub returns-clause-woven : goal.returns-clause-woven
returns-clause-woven c =
    let es : List Entry = map part_view c.args.parts.now in
    let table : c.in_ok-table.table ≡ c.args.names.now = c.in_ok-table.ensures in
    let edges : c.as_slice.result.now ≡ item_edges c.args.names.now es =
    c.as_slice.ensures.value ∙ c.in_ok-edges.ensures ∙ ap (λ (t : List (List ℕ)). item_edges t es) table in
    let count : c.in_ok-count.count ≡ c.args.items = search rules in
    let columns : c.in_ok-columns.columns ≡ length c.args.names.now = search (rules, table) in
    let same : columns_from 0 c.in_ok-columns.columns c.as_slice.result.now ≡ columns_of es c.args.names.now =
    ap₂ (λ (n : ℕ) (ds : List Edge). columns_from 0 n ds) columns edges ∙ columns_are c.args.names.now es c.requires.different in
    subst (λ (n : ℕ). IfOk c.weave_entries.result (λ sorted. IfWhole sorted (λ order. IsWoven n (columns_of es c.args.names.now) order.items))) count
    (subst (λ (cs : List (List ℕ)). IfOk c.weave_entries.result (λ sorted. IfWhole sorted (λ order. IsWoven c.in_ok-count.count cs order.items))) same c.weave_entries.ensures.woven)

pub returns-clause-crossed : goal.returns-clause-crossed
returns-clause-crossed c =
    let es : List Entry = map part_view c.args.parts.now in
    let table : c.in_ok-table.table ≡ c.args.names.now = c.in_ok-table.ensures in
    let edges : c.as_slice.result.now ≡ item_edges c.args.names.now es =
    c.as_slice.ensures.value ∙ c.in_ok-edges.ensures ∙ ap (λ (t : List (List ℕ)). item_edges t es) table in
    let count : c.in_ok-count.count ≡ c.args.items = search rules in
    let columns : c.in_ok-columns.columns ≡ length c.args.names.now = search (rules, table) in
    let same : columns_from 0 c.in_ok-columns.columns c.as_slice.result.now ≡ columns_of es c.args.names.now =
    ap₂ (λ (n : ℕ) (ds : List Edge). columns_from 0 n ds) columns edges ∙ columns_are c.args.names.now es c.requires.different in
    subst (λ (n : ℕ). IfOk c.weave_entries.result (λ sorted. IfStuck sorted (IsCrossedAt n (columns_of es c.args.names.now)))) count
    (subst (λ (cs : List (List ℕ)). IfOk c.weave_entries.result (λ sorted. IfStuck sorted (IsCrossedAt c.in_ok-count.count cs))) same c.weave_entries.ensures.crossed)
