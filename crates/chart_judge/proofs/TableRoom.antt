-- A term has room for the instances of a chart of an accepted table, and no event of the chart is at one instance twice.
use Rattle.std.specs.Prelude.{ℕ, suc, ◌≤◌, List, [], ◌∷◌, Option, None, Some, length}
use Rattle.std.proofs.Common.{◌≡◌, ◌∙◌, refl, sym, subst, inl, inr, arith}
use Rattle.expanded_charts.specs.Expanding.{NumberedEvent}
use Rattle.expanded_charts.specs.Numbering.{with_event, with_events, with_second}
use Rattle.expanded_charts.specs.declared.numbering.Numbering.{Numbering}
use Rattle.expanded_terms.specs.PlacedTerms.{child_of}
use Rattle.expansion_tree.specs.Expansions.{events_in}
use Rattle.list_facts.proofs.Tables.{among_with_name, different_with_name}
use Rattle.msc_acceptance.specs.AcceptedCharts.{IsAcceptedTable, table_instances}
use Rattle.msc_base.specs.Lists.{AreDifferent, IsAmong}
use Rattle.msc_base.specs.NameTables.{with_name}
use Rattle.msc_base.specs.Orders.{Among, first, later}
use Rattle.msc_meaning.specs.Tables.{Table}
use Rattle.table_terms.specs.TableTerms.{HasRoom, chart_expansion, chart_numbering}
use Rattle.chart_judge.proofs.ExpandedEvents.{IsSettled, events_settled}

-- ---- different names among others are no more than these

-- the list without one of its names
record Without (names : List (List ℕ)) (name : List ℕ) : Type 0 where
  rest : List (List ℕ)
  one_less : length names ≡ suc (length rest)
  kept : (other : List ℕ) → IsAmong names other → (other ≡ name → ⊥) → IsAmong rest other

without : (names : List (List ℕ)) (name : List ℕ) → IsAmong names name → Without names name
without [] name h = absurd h
without (n ∷ names) name (inl e) = record {
  rest = names;
  one_less = refl;
  kept = λ other h ne. elim h [ inl same ↦ absurd (ne (same ∙ sym e)) | inr r ↦ r ];
}
without (n ∷ names) name (inr h) =
    let w = without names name h in
    record {
      rest = n ∷ w.rest;
      one_less = omega (arith, w.one_less);
      kept = λ other among ne. elim among [ inl same ↦ inl same | inr r ↦ inr (w.kept other r ne) ];
    }

no_more : (names others : List (List ℕ)) → AreDifferent names → ((name : List ℕ) → IsAmong names name → IsAmong others name) → length names ≤ length others
no_more [] others d among = omega arith
no_more (n ∷ names) others d among =
    let w = without others n (among n (inl refl)) in
    let rest = no_more names w.rest d.1 (λ name h. w.kept name (among name (inr h)) (λ e. d.0 (subst (IsAmong names) e h))) in
    omega (arith, rest, w.one_less)

-- ---- the names of a numbering

-- they differ, and are among these
record AreNamed (others names : List (List ℕ)) : Type 0 where
  different : AreDifferent names
  among : (name : List ℕ) → IsAmong names name → IsAmong others name

module _ (others : List (List ℕ)) where
  one_named : (names : List (List ℕ)) (i : List ℕ) → IsAmong others i → AreNamed others names → AreNamed others (with_name names i)
  one_named names i h n = record {
    different = different_with_name names i n.different;
    among = λ name k. elim ((among_with_name names i name).0 k) [ inl is ↦ subst (IsAmong others) (sym is) h | inr j ↦ n.among name j ];
  }

  second_named : (names : List (List ℕ)) (o : Option (List ℕ)) → ((k : List ℕ) → o ≡ Some k → IsAmong others k) → AreNamed others names → AreNamed others (with_second names o)
  second_named names None h n = n
  second_named names (Some k) h n = one_named names k (h k refl) n

  event_named : (s : Numbering) (e : NumberedEvent) → IsSettled others e.happening → AreNamed others s.names → AreNamed others (with_event s e).names
  event_named s e h n = second_named (with_name s.names e.happening.label.at) e.happening.also h.second (one_named s.names e.happening.label.at h.at n)

  events_named : (es : List NumberedEvent) (s : Numbering) → ((e : NumberedEvent) → Among e es → IsSettled others e.happening) → AreNamed others s.names → AreNamed others (with_events s es).names
  events_named [] s f n = n
  events_named (e ∷ es) s f n = events_named es (with_event s e) (λ d i. f d (later i)) (event_named s e (f e first) n)

module _ (table : Table) (accepted : IsAcceptedTable table) (name : List ℕ) where
  pub has_room : HasRoom table name
  has_room =
      let named = events_named (table_instances [] table) (events_in (chart_expansion table name)) (record { names = []; labels = [] }) (events_settled table accepted.charts name) (record { different = tt; among = λ n i. absurd i }) in
      let few = no_more (chart_numbering table name).names (table_instances [] table) named.different named.among in
      let limit = accepted.few_instances in
      record { few = omega (arith, few, limit); apart = λ e i. (events_settled table accepted.charts name e i).apart }

  pub are_placed : (e : NumberedEvent) → Among e (events_in (chart_expansion table name)) → e.happening.also ≡ child_of e.happening.label
  are_placed e i = (events_settled table accepted.charts name e i).child
