use Rattle.std.proofs.Common.{rules, ◌≡◌, IfOk, List, length, map, subst}
use Rattle.std.specs.List.Sorted.{IsPermutation}
use Rattle.std.proofs.lemmas.List.{length-map}
use Rattle.column_order.specs.declared.edge.Edge.{Edge}
use Rattle.msc_meaning.specs.Bodies.{EventNode}
use Rattle.level_weaving.specs.LevelPairs.{edges_at, pair_of}
use Rattle.level_weaving.specs.EventViews.{event_view}
use Rattle.level_weaving.proofs.AloneLaws.{pairs_within}
use Rattle.level_weaving.proofs.PartnerLaws.{are_pairs}
use Rattle.level_weaving.proofs.StepLaws.{pairs_answer}
use Rattle.level_weaving.proofs.pairing.level_pairs.Goals as goal

pub numbered-requires : goal.numbered-requires
numbered-requires c = pairs_within (map event_view c.args.events.now) c.args.pairs.now (length c.args.events.now) (length-map c.args.events.now event_view) c.requires.pairs

pub returns : goal.returns
returns c =
    let held : List EventNode = map event_view c.args.events.now in
    let zs : List Edge = c.sort_pairs.new.edges.items in
    let edges : c.in_ok-edges.edges.items ≡ edges_at held c.args.pairs.now = search rules in
    let moves : IsPermutation (edges_at held c.args.pairs.now) zs = subst (λ (es : List Edge). IsPermutation es zs) edges c.in_ok-sort_pairs.ensures.permutation in
    pairs_answer c.listed.result held (map pair_of zs) (subst (λ (es : List Edge). IfOk c.listed.result (λ list. list ≡ map pair_of es)) c.as_slice.ensures.value c.listed.ensures)
    (are_pairs held c.args.pairs.now zs c.requires.different c.requires.pairs c.requires.rising moves c.in_ok-sort_pairs.ensures.sorted)
