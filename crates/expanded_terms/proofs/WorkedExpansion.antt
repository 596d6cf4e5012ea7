-- The worked chart meets what the laws ask.
use Rattle.std.specs.Prelude.{[], codes}
use Rattle.std.proofs.Common.{◌≡◌, refl, sym, subst, arith}
use Rattle.std.proofs.lemmas.Option.{same_Some}
use Rattle.msc_base.specs.Orders.{first, later}
use Rattle.msc_tree.specs.Expressions.{Chart}
use Rattle.msc_meaning.specs.Bodies.{Body, WovenItems}
use Rattle.msc_meaning.specs.InnerEvents.{InnerEvent, here, in_chart, IsInner, own, inside, passed, IsInnerOfExpression, of_chart, IsInnerOf, of_inline, of_reference, no_ends, end_and}
use Rattle.msc_meaning.specs.MeaningLaws.{HaveOneEnd}
use Rattle.msc_meaning.specs.Tables.{Table}
use Rattle.msc_meaning.specs.WorkedCharts as worked
use Rattle.msc_meaning.specs.WorkedCharts.{g, h}
use Rattle.msc_meaning.proofs.KnownEnds.{one_call}
use Rattle.expanded_terms.specs.WorkedExpansion.{GateExpands}

gate_inner : {table : Table} {e : InnerEvent} → IsInner table worked.gate_body g e → e.node ≡ worked.gate_in
gate_inner (own first e) = refl
gate_inner (own (later a) e) = elim a [ ]
gate_inner (inside (later a) c s) = elim a [ ]
gate_inner (passed (later a) b e s) = elim a [ ]

in_c : {e : InnerEvent} → IsInnerOfExpression worked.gate_through_levels (Chart (codes "C")) g e → e.node ≡ worked.gate_in
in_c (of_chart {body = b} {e = f} first e s) = let P : Body → Type 0 = λ x. IsInner worked.gate_through_levels x g f in gate_inner (subst P (sym (same_Some worked.gate_body b e)) s)
in_c (of_chart (later a) e s) = elim a [ ]

in_b : {e : InnerEvent} → IsInner worked.gate_through_levels worked.passing_body h e → e.node ≡ worked.gate_in
in_b (own a e) = elim a [ ]
in_b (inside (later a) c s) = elim a [ ]
in_b (passed first first e s) = in_c s
in_b (passed first (later b) e s) = elim b [ ]
in_b (passed (later a) b e s) = elim a [ ]

in_r : {e : InnerEvent} → IsInnerOfExpression worked.gate_through_levels (Chart (codes "B")) h e → e.node ≡ worked.gate_in
in_r (of_chart {body = b} {e = f} first e s) = let P : Body → Type 0 = λ x. IsInner worked.gate_through_levels x h f in in_b (subst P (sym (same_Some worked.passing_body b e)) s)
in_r (of_chart (later a) e s) = elim a [ ]

outer_inner : {e : InnerEvent} → IsInnerOf worked.gate_through_levels worked.outer_items (codes "R") h e → e.node ≡ worked.gate_in
outer_inner (of_inline (later (later a)) e s) = elim a [ ]
outer_inner (of_reference (later first) e s) = in_r s
outer_inner (of_reference (later (later a)) e s) = elim a [ ]

outer_end : IsInnerOf worked.gate_through_levels worked.outer_items (codes "R") h (in_chart (codes "B") (in_chart (codes "C") (here worked.gate_in)))
outer_end = of_reference (later first) refl (of_chart first refl (passed first first refl (of_chart first refl (own first refl))))

pub none_called : (table : Table) (held : WovenItems) → HaveOneEnd table held []
none_called table held c a e f s t = elim a [ ]

pub gate_expands : GateExpands
gate_expands = record {
  term = refl;
  fit = record {
    entry = _;
    is = refl;
    fit = (
      record { there = end_and (in_chart (codes "B") (in_chart (codes "C") (here worked.gate_in))) outer_end no_ends; one = one_call worked.gate_through_levels worked.outer_items _ worked.gate_in (λ e s. outer_inner s) },
      (
        record { label = refl; at = refl; also = λ i e. absurd cc },
        (
          record {
            entry = _;
            is = refl;
            fit = (
              record { there = no_ends; one = none_called worked.gate_through_levels worked.passing_items },
              (
                record {
                  entry = _;
                  is = refl;
                  fit = (record { there = no_ends; one = none_called worked.gate_through_levels _ }, (record { label = refl; at = refl; also = λ i e. absurd cc }, tt));
                },
                tt,
              ),
            );
          },
          tt,
        ),
      ),
    );
  };
  placeable = record {
    entry = _;
    is = refl;
    fit = (
      record { there = end_and (in_chart (codes "B") (in_chart (codes "C") (here worked.gate_in))) outer_end no_ends; one = one_call worked.gate_through_levels worked.outer_items _ worked.gate_in (λ e s. outer_inner s) },
      (
        record { label = refl; child = refl },
        (
          record {
            entry = _;
            is = refl;
            fit = (
              record { there = no_ends; one = none_called worked.gate_through_levels worked.passing_items },
              (
                record {
                  entry = _;
                  is = refl;
                  fit = (record { there = no_ends; one = none_called worked.gate_through_levels _ }, (record { label = refl; child = refl }, tt));
                },
                tt,
              ),
            );
          },
          tt,
        ),
      ),
    );
  };
  few = (
    record { numbers = (λ i. elim i [ ], tt); pairs = omega arith; calls = (λ i. elim i [ ], tt) },
    (tt, ((record { numbers = tt; pairs = omega arith; calls = tt }, ((record { numbers = (λ i. elim i [ ], tt); pairs = omega arith; calls = tt }, (tt, tt)), tt)), tt)),
  );
}
