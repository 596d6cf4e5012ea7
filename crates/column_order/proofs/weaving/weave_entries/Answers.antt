use Rattle.std.proofs.Common.{rules, ◌≡◌, ℕ, List, length, IfOk, subst, sym}
use Rattle.column_order.specs.Answers.{IfWhole, IfStuck}
use Rattle.column_order.specs.Weaving.{IsCrossedAt, IsWoven}
use Rattle.msc_base.specs.Lists.{IsAmong}
use Rattle.column_order.specs.Columns.{columns_from}
use Rattle.column_order.proofs.EntryColumns.{lists_of, columns_low}
use Rattle.column_order.proofs.RisingColumns.{in_order}
use Rattle.column_order.proofs.WeavingLaws.{text_is_woven}
use Rattle.column_order.proofs.weaving.weave_entries.Goals as goal

pub returns-then-branch-clause-woven : goal.returns-then-branch-clause-woven
returns-then-branch-clause-woven c =
    let columns = columns_from 0 c.args.columns c.args.entries.now in
    subst (IsWoven c.args.count columns) (sym c.in_ok-order.ensures) (text_is_woven c.args.count columns (in_order c.args.count c.args.columns c.args.entries.now c.requires.inside (c.in_ok-are_in_order.ensures c.if-branch.true)))

pub weave-requires : goal.weave-requires
weave-requires c =
    let long : length c.as_slice.result.now ≡ c.args.columns = search rules in
    let same = lists_of c.args.columns c.args.entries.now c.as_slice.result.now c.in_ok-lists.lists.items c.as_slice.ensures.value long c.in_ok-lists.ensures.targets in
    record {
      inside = λ column mine. columns_low c.args.columns c.args.count 0 c.args.columns c.args.entries.now c.requires.inside column (subst (λ (cs : List (List ℕ)). IsAmong cs column) same mine);
    }

pub returns-clause-woven : goal.returns-clause-woven
returns-clause-woven c =
    let long : length c.as_slice.result.now ≡ c.args.columns = search rules in
    let same = lists_of c.args.columns c.args.entries.now c.as_slice.result.now c.in_ok-lists.lists.items c.as_slice.ensures.value long c.in_ok-lists.ensures.targets in
    subst (λ (cs : List (List ℕ)). IfOk c.weave.result (λ sorted. IfWhole sorted (λ order. IsWoven c.args.count cs order.items))) same c.weave.ensures.woven

pub returns-clause-crossed : goal.returns-clause-crossed
returns-clause-crossed c =
    let long : length c.as_slice.result.now ≡ c.args.columns = search rules in
    let same = lists_of c.args.columns c.args.entries.now c.as_slice.result.now c.in_ok-lists.lists.items c.as_slice.ensures.value long c.in_ok-lists.ensures.targets in
    subst (λ (cs : List (List ℕ)). IfOk c.weave.result (λ sorted. IfStuck sorted (IsCrossedAt c.args.count cs))) same c.weave.ensures.crossed
