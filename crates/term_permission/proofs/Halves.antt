-- Parts of a row that are cut in two: what is known of all is known of both, and each ranks lower.
use Rattle.std.specs.Prelude.{◌+◌, ◌<◌, false, List, ◌++◌, ◌≡◌, length}
use Rattle.std.proofs.Common.{ap, sym, ◌∙◌, subst, arith}
use Rattle.msc_base.specs.Patterns.{Mode}
use Rattle.chart_term.specs.NormalForms.{has_gap}
use Rattle.chart_term.specs.Properties.{EachTurn}
use Rattle.chart_term.specs.Tables.{Tables}
use Rattle.chart_term.specs.Terms.{Part}
use Rattle.term_laws.specs.Normality.{IsNotNil, IsPartOf}
use Rattle.term_laws.proofs.Measures.{rank_row}
use Rattle.term_permission.specs.Ready.{IsReady, AreReadyParts}
use Rattle.term_permission.proofs.Joins.{each-first, each-second, turns-first, turns-second}
use Rattle.term_permission.proofs.PermitRows.{rank-both, rank-filled, ready-first, ready-second}

module _ (w : Tables) (all first second : List Part) (cut : all ≡ first ++ second) where
  rank_sum : rank_row w all ≡ rank_row w first + rank_row w second
  rank_sum = ap (rank_row w) cut ∙ rank-both w first second

  pub first_lower : 0 < length second → rank_row w first < rank_row w all
  first_lower filled = omega (arith, rank_sum, rank-filled w second filled)

  pub second_lower : 0 < length first → rank_row w second < rank_row w all
  second_lower filled = omega (arith, rank_sum, rank-filled w first filled)

  -- the parts of a join
  module _ (m : Mode) (turns : has_gap all ≡ false) (ready : EachTurn (IsReady w) all) (are_open : EachTurn (IsPartOf m) all) where
    pub first_of_join : (has_gap first ≡ false) × (EachTurn (IsReady w) first × EachTurn (IsPartOf m) first)
    first_of_join = (
      turns-first first second (sym (ap has_gap cut) ∙ turns),
      (each-first (IsReady w) first second (subst (EachTurn (IsReady w)) cut ready), each-first (IsPartOf m) first second (subst (EachTurn (IsPartOf m)) cut are_open)),
    )

    pub second_of_join : (has_gap second ≡ false) × (EachTurn (IsReady w) second × EachTurn (IsPartOf m) second)
    second_of_join = (
      turns-second first second (sym (ap has_gap cut) ∙ turns),
      (each-second (IsReady w) first second (subst (EachTurn (IsReady w)) cut ready), each-second (IsPartOf m) first second (subst (EachTurn (IsPartOf m)) cut are_open)),
    )

  -- the turns of a loop
  module _ (ready : AreReadyParts w all) (over : EachTurn IsNotNil all) where
    pub first_of_row : AreReadyParts w first × EachTurn IsNotNil first
    first_of_row = (ready-first w first second (subst (AreReadyParts w) cut ready), each-first IsNotNil first second (subst (EachTurn IsNotNil) cut over))

    pub second_of_row : AreReadyParts w second × EachTurn IsNotNil second
    second_of_row = (ready-second w first second (subst (AreReadyParts w) cut ready), each-second IsNotNil first second (subst (EachTurn IsNotNil) cut over))
