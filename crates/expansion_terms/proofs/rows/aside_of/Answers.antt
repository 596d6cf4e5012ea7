use Rattle.std.proofs.Common.{◌∙◌, ◌-◌, [], ◌∷◌, ap, sym, arith}
use Rattle.msc_base.specs.Patterns.{par}
use Rattle.chart_term.specs.NormalForms.{join_all}
use Rattle.chart_term.specs.Terms.{Tree}
use Rattle.expansion_terms.specs.MadeTerms.{side_by_side}
use Rattle.expansion_terms.proofs.Dropped.{drop_less}
use Rattle.expansion_terms.proofs.rows.aside_of.Goals as goal

pub loop-index-preserved : goal.loop-index-preserved
loop-index-preserved c = record {
  within = omega (arith, c.loop-index.invariant.within);
  part = c.in_ok-rest-2.ensures
      ∙ (ap (join_all par) c.in_ok-list.ensures
      ∙ (ap (λ (x : Tree). join_all par (x ∷ c.loop-index.rest ∷ [])) c.in_ok-front.ensures
      ∙ (ap (λ (x : Tree). join_all par (c.at.result.now ∷ x ∷ [])) c.loop-index.invariant.part
      ∙ sym (ap side_by_side (drop_less c.args.terms.now (c.loop-index.index - 1) c.loop-index.index c.at.result.now c.at.ensures (omega arith))))));
}
