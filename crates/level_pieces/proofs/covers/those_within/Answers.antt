use Rattle.std.proofs.Common.{rules, ◌≡◌, ◌∙◌, ap, ℕ, List}
use Rattle.std.specs.List.{list_any}
use Rattle.std.specs.Str.{bytes_eq}
use Rattle.msc_meaning.specs.LevelItems.{is_in}
use Rattle.level_pieces.proofs.StepLaws.{within_step}
use Rattle.level_pieces.proofs.covers.those_within.Goals as goal

pub loop-name-preserved : goal.loop-name-preserved
loop-name-preserved c =
    let name : List ℕ = c.name-item.result in
    let read : c.bytes.result.now ≡ name = search rules in
    let test : c.has.result ≡ is_in c.args.names.now name =
    c.has.ensures.test ∙ c.in_ok-table.ensures.has c.bytes.result.now ∙ ap (λ (n : List ℕ). list_any (bytes_eq n) c.args.names.now) read in
    within_step c.args.names.now c.args.level.now c.loop-name.name-index name c.has.result c.loop-name.found c.push_found.new.found c.loop-name-test.true c.name-item.is test c.in_ok-push_found.ensures ∙ c.loop-name.invariant
