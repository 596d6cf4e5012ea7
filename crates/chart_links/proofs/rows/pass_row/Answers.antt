use Rattle.std.proofs.Common.{◌≡◌, ◌||◌, ◌&&◌, Bool, true, ap, sym, ◌∙◌}
use Rattle.bit_sets.specs.Blocks.{has_bit}
use Rattle.chart_links.proofs.BitFacts.{had_either}
use Rattle.chart_links.proofs.rows.pass_row.Goals as goal

pub returns-in_ok-unite : goal.returns-in_ok-unite
returns-in_ok-unite c =
    let has : has_bit c.args.row.now c.args.middle ≡ true = sym c.has.ensures ∙ c.if-has.true in
    λ n. had_either c.args.row.now c.args.through.now c.unite.new.self c.in_ok-unite.ensures n ∙ ap (λ (b : Bool). has_bit c.args.row.now n || (b && has_bit c.args.through.now n)) (sym has)
