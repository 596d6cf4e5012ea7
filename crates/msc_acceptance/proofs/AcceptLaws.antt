-- From groups of rules to the first fault of a document, and to its table.
use Rattle.std.proofs.Common.{◌≡◌, ℕ, ◌≤◌, inl, inr, List, [], ◌∷◌, ◌++◌, arith, refl, sym, ap, ◌∙◌, subst, nat_eq, if◌then◌else◌, length, option_map, None, Some, Option}
use Rattle.msc_base.specs.Lists.{IsAmong}
use Rattle.msc_base.specs.Places.{IsLeast}
use Rattle.msc_base.specs.declared.place.Place.{Place}
use Rattle.msc_tree.specs.Charts.{Chart, Document}
use Rattle.msc_rules.specs.declared.rule.Rule.{Rule}
use Rattle.msc_rules.specs.declared.rule.Rule.TheVariants.{Bytes, BadByte, OpenString, OpenNote, LongName, Syntax, Unsupported, TooDeep, Charts, Instances, Nodes, LoopBound, NamedTwice, Undeclared, MissingChart, Recursive, Uncovered, ExpandedNesting, Size, Total, NotShared, OperandsDiffer, ExcPlace, Crossed, Unmatched, NoGate, GateTwice, GateWays, GateSplit, GateOnLoop, DecompositionMismatch, SharedPart, Inside, LocalEvent, UnknownEvent, EventNamedTwice, Cyclic, UnknownLabel, LabelNamedTwice, Endless, CreatePlace, CreateTwice, AfterStop}
use Rattle.msc_rules.specs.Rules.{group_of, number_of}
use Rattle.msc_rules.specs.declared.first_fault.Broken.{Broken}
use Rattle.msc_rules.specs.FirstFaults.{IsBest, IsInSome, AreGroups, IsFirst, IsFaultless, Keeps}
use Rattle.msc_rules.proofs.FirstOnes.{first_fault, faultless, one_first_fault}
use Rattle.std.proofs.lemmas.Bool.{cases_lt}
use Rattle.std.proofs.lemmas.List.{length-map}
use Rattle.msc_base.specs.declared.limits.TheConstants.Limits.{CHARTS}
use Rattle.list_facts.proofs.Reading.{some_at}
use Rattle.msc_meaning.specs.Tables.{Table}
use Rattle.msc_meaning.specs.Views.{entry_view, table_view}
use Rattle.msc_meaning.specs.declared.body.ChartEntry as code
use Rattle.msc_meaning.specs.WovenTables.{AreEntriesOf, entry_and}
use Rattle.msc_instances.specs.Instances.{instances}
use Rattle.msc_acceptance.specs.Acceptance.{Breaks, BreaksOf, HasFault, IsAccepted}
use Rattle.msc_acceptance.specs.ChartFaults.{CrossesAt, IsAloneAt, IsCyclicAt}
use Rattle.msc_acceptance.proofs.GroupLaws.{one_best}
use Rattle.graph_rules.specs.GraphRules.{labels}
use Rattle.msc_acceptance.specs.Deciding.{AllKept, IsFirstOf, body_groups, all_groups, endings, graph_groups, link_groups, table_groups, text_groups, limits, names, references, sizes, parts, columns, messages, gates, decompositions, event_names, gate_groups, cycles}
use Rattle.msc_acceptance.specs.Rules.{InOne}

-- ---- numbers and groups

-- what holds of the rules that are looked at holds of each that is in a group
each_rule : (P : Rule → Type 0) → P Charts → P Instances → P Nodes → P LoopBound → P NamedTwice → P Undeclared → P MissingChart → P Recursive → P Uncovered → P ExpandedNesting → P Size → P Total → P NotShared → P OperandsDiffer → P ExcPlace → P CreatePlace → P CreateTwice → P AfterStop → P Crossed → P Unmatched → P NoGate → P GateTwice → P GateWays → P GateSplit → P GateOnLoop → P DecompositionMismatch → P SharedPart → P Inside → P LocalEvent → P UnknownEvent → P EventNamedTwice → P Cyclic → P UnknownLabel → P LabelNamedTwice → P Endless → (r : Rule) → IsInSome all_groups r → P r
each_rule P p0 p1 p2 p3 p4 p5 p6 p7 p8 p9 p10 p11 p12 p13 p14 p15 p16 p17 p18 p19 p20 p21 p22 p23 p24 p25 p26 p27 p28 p29 p30 p31 p32 p33 p34 r (inl (inl is)) = subst P (sym is) p0
each_rule P p0 p1 p2 p3 p4 p5 p6 p7 p8 p9 p10 p11 p12 p13 p14 p15 p16 p17 p18 p19 p20 p21 p22 p23 p24 p25 p26 p27 p28 p29 p30 p31 p32 p33 p34 r (inl (inr (inl is))) = subst P (sym is) p1
each_rule P p0 p1 p2 p3 p4 p5 p6 p7 p8 p9 p10 p11 p12 p13 p14 p15 p16 p17 p18 p19 p20 p21 p22 p23 p24 p25 p26 p27 p28 p29 p30 p31 p32 p33 p34 r (inl (inr (inr (inl is)))) = subst P (sym is) p2
each_rule P p0 p1 p2 p3 p4 p5 p6 p7 p8 p9 p10 p11 p12 p13 p14 p15 p16 p17 p18 p19 p20 p21 p22 p23 p24 p25 p26 p27 p28 p29 p30 p31 p32 p33 p34 r (inl (inr (inr (inr (inl is))))) = subst P (sym is) p3
each_rule P p0 p1 p2 p3 p4 p5 p6 p7 p8 p9 p10 p11 p12 p13 p14 p15 p16 p17 p18 p19 p20 p21 p22 p23 p24 p25 p26 p27 p28 p29 p30 p31 p32 p33 p34 r (inl (inr (inr (inr (inr (n)))))) = absurd n
each_rule P p0 p1 p2 p3 p4 p5 p6 p7 p8 p9 p10 p11 p12 p13 p14 p15 p16 p17 p18 p19 p20 p21 p22 p23 p24 p25 p26 p27 p28 p29 p30 p31 p32 p33 p34 r (inr (inl (inl is))) = subst P (sym is) p4
each_rule P p0 p1 p2 p3 p4 p5 p6 p7 p8 p9 p10 p11 p12 p13 p14 p15 p16 p17 p18 p19 p20 p21 p22 p23 p24 p25 p26 p27 p28 p29 p30 p31 p32 p33 p34 r (inr (inl (inr (inl is)))) = subst P (sym is) p5
each_rule P p0 p1 p2 p3 p4 p5 p6 p7 p8 p9 p10 p11 p12 p13 p14 p15 p16 p17 p18 p19 p20 p21 p22 p23 p24 p25 p26 p27 p28 p29 p30 p31 p32 p33 p34 r (inr (inl (inr (inr (n))))) = absurd n
each_rule P p0 p1 p2 p3 p4 p5 p6 p7 p8 p9 p10 p11 p12 p13 p14 p15 p16 p17 p18 p19 p20 p21 p22 p23 p24 p25 p26 p27 p28 p29 p30 p31 p32 p33 p34 r (inr (inr (inl (inl is)))) = subst P (sym is) p6
each_rule P p0 p1 p2 p3 p4 p5 p6 p7 p8 p9 p10 p11 p12 p13 p14 p15 p16 p17 p18 p19 p20 p21 p22 p23 p24 p25 p26 p27 p28 p29 p30 p31 p32 p33 p34 r (inr (inr (inl (inr (inl is))))) = subst P (sym is) p7
each_rule P p0 p1 p2 p3 p4 p5 p6 p7 p8 p9 p10 p11 p12 p13 p14 p15 p16 p17 p18 p19 p20 p21 p22 p23 p24 p25 p26 p27 p28 p29 p30 p31 p32 p33 p34 r (inr (inr (inl (inr (inr (inl is)))))) = subst P (sym is) p8
each_rule P p0 p1 p2 p3 p4 p5 p6 p7 p8 p9 p10 p11 p12 p13 p14 p15 p16 p17 p18 p19 p20 p21 p22 p23 p24 p25 p26 p27 p28 p29 p30 p31 p32 p33 p34 r (inr (inr (inl (inr (inr (inr (n))))))) = absurd n
each_rule P p0 p1 p2 p3 p4 p5 p6 p7 p8 p9 p10 p11 p12 p13 p14 p15 p16 p17 p18 p19 p20 p21 p22 p23 p24 p25 p26 p27 p28 p29 p30 p31 p32 p33 p34 r (inr (inr (inr (inl (inl is))))) = subst P (sym is) p9
each_rule P p0 p1 p2 p3 p4 p5 p6 p7 p8 p9 p10 p11 p12 p13 p14 p15 p16 p17 p18 p19 p20 p21 p22 p23 p24 p25 p26 p27 p28 p29 p30 p31 p32 p33 p34 r (inr (inr (inr (inl (inr (inl is)))))) = subst P (sym is) p10
each_rule P p0 p1 p2 p3 p4 p5 p6 p7 p8 p9 p10 p11 p12 p13 p14 p15 p16 p17 p18 p19 p20 p21 p22 p23 p24 p25 p26 p27 p28 p29 p30 p31 p32 p33 p34 r (inr (inr (inr (inl (inr (inr (inl is))))))) = subst P (sym is) p11
each_rule P p0 p1 p2 p3 p4 p5 p6 p7 p8 p9 p10 p11 p12 p13 p14 p15 p16 p17 p18 p19 p20 p21 p22 p23 p24 p25 p26 p27 p28 p29 p30 p31 p32 p33 p34 r (inr (inr (inr (inl (inr (inr (inr (n)))))))) = absurd n
each_rule P p0 p1 p2 p3 p4 p5 p6 p7 p8 p9 p10 p11 p12 p13 p14 p15 p16 p17 p18 p19 p20 p21 p22 p23 p24 p25 p26 p27 p28 p29 p30 p31 p32 p33 p34 r (inr (inr (inr (inr (inl (inl is)))))) = subst P (sym is) p12
each_rule P p0 p1 p2 p3 p4 p5 p6 p7 p8 p9 p10 p11 p12 p13 p14 p15 p16 p17 p18 p19 p20 p21 p22 p23 p24 p25 p26 p27 p28 p29 p30 p31 p32 p33 p34 r (inr (inr (inr (inr (inl (inr (inl is))))))) = subst P (sym is) p13
each_rule P p0 p1 p2 p3 p4 p5 p6 p7 p8 p9 p10 p11 p12 p13 p14 p15 p16 p17 p18 p19 p20 p21 p22 p23 p24 p25 p26 p27 p28 p29 p30 p31 p32 p33 p34 r (inr (inr (inr (inr (inl (inr (inr (inl is)))))))) = subst P (sym is) p14
each_rule P p0 p1 p2 p3 p4 p5 p6 p7 p8 p9 p10 p11 p12 p13 p14 p15 p16 p17 p18 p19 p20 p21 p22 p23 p24 p25 p26 p27 p28 p29 p30 p31 p32 p33 p34 r (inr (inr (inr (inr (inl (inr (inr (inr (inl is))))))))) = subst P (sym is) p15
each_rule P p0 p1 p2 p3 p4 p5 p6 p7 p8 p9 p10 p11 p12 p13 p14 p15 p16 p17 p18 p19 p20 p21 p22 p23 p24 p25 p26 p27 p28 p29 p30 p31 p32 p33 p34 r (inr (inr (inr (inr (inl (inr (inr (inr (inr (inl is)))))))))) = subst P (sym is) p16
each_rule P p0 p1 p2 p3 p4 p5 p6 p7 p8 p9 p10 p11 p12 p13 p14 p15 p16 p17 p18 p19 p20 p21 p22 p23 p24 p25 p26 p27 p28 p29 p30 p31 p32 p33 p34 r (inr (inr (inr (inr (inl (inr (inr (inr (inr (inr (inl is))))))))))) = subst P (sym is) p17
each_rule P p0 p1 p2 p3 p4 p5 p6 p7 p8 p9 p10 p11 p12 p13 p14 p15 p16 p17 p18 p19 p20 p21 p22 p23 p24 p25 p26 p27 p28 p29 p30 p31 p32 p33 p34 r (inr (inr (inr (inr (inl (inr (inr (inr (inr (inr (inr (n)))))))))))) = absurd n
each_rule P p0 p1 p2 p3 p4 p5 p6 p7 p8 p9 p10 p11 p12 p13 p14 p15 p16 p17 p18 p19 p20 p21 p22 p23 p24 p25 p26 p27 p28 p29 p30 p31 p32 p33 p34 r (inr (inr (inr (inr (inr (inl (inl is))))))) = subst P (sym is) p18
each_rule P p0 p1 p2 p3 p4 p5 p6 p7 p8 p9 p10 p11 p12 p13 p14 p15 p16 p17 p18 p19 p20 p21 p22 p23 p24 p25 p26 p27 p28 p29 p30 p31 p32 p33 p34 r (inr (inr (inr (inr (inr (inl (inr (n)))))))) = absurd n
each_rule P p0 p1 p2 p3 p4 p5 p6 p7 p8 p9 p10 p11 p12 p13 p14 p15 p16 p17 p18 p19 p20 p21 p22 p23 p24 p25 p26 p27 p28 p29 p30 p31 p32 p33 p34 r (inr (inr (inr (inr (inr (inr (inl (inl is)))))))) = subst P (sym is) p19
each_rule P p0 p1 p2 p3 p4 p5 p6 p7 p8 p9 p10 p11 p12 p13 p14 p15 p16 p17 p18 p19 p20 p21 p22 p23 p24 p25 p26 p27 p28 p29 p30 p31 p32 p33 p34 r (inr (inr (inr (inr (inr (inr (inl (inr (n))))))))) = absurd n
each_rule P p0 p1 p2 p3 p4 p5 p6 p7 p8 p9 p10 p11 p12 p13 p14 p15 p16 p17 p18 p19 p20 p21 p22 p23 p24 p25 p26 p27 p28 p29 p30 p31 p32 p33 p34 r (inr (inr (inr (inr (inr (inr (inr (inl (inl is))))))))) = subst P (sym is) p20
each_rule P p0 p1 p2 p3 p4 p5 p6 p7 p8 p9 p10 p11 p12 p13 p14 p15 p16 p17 p18 p19 p20 p21 p22 p23 p24 p25 p26 p27 p28 p29 p30 p31 p32 p33 p34 r (inr (inr (inr (inr (inr (inr (inr (inl (inr (inl is)))))))))) = subst P (sym is) p21
each_rule P p0 p1 p2 p3 p4 p5 p6 p7 p8 p9 p10 p11 p12 p13 p14 p15 p16 p17 p18 p19 p20 p21 p22 p23 p24 p25 p26 p27 p28 p29 p30 p31 p32 p33 p34 r (inr (inr (inr (inr (inr (inr (inr (inl (inr (inr (inl is))))))))))) = subst P (sym is) p22
each_rule P p0 p1 p2 p3 p4 p5 p6 p7 p8 p9 p10 p11 p12 p13 p14 p15 p16 p17 p18 p19 p20 p21 p22 p23 p24 p25 p26 p27 p28 p29 p30 p31 p32 p33 p34 r (inr (inr (inr (inr (inr (inr (inr (inl (inr (inr (inr (inl is)))))))))))) = subst P (sym is) p23
each_rule P p0 p1 p2 p3 p4 p5 p6 p7 p8 p9 p10 p11 p12 p13 p14 p15 p16 p17 p18 p19 p20 p21 p22 p23 p24 p25 p26 p27 p28 p29 p30 p31 p32 p33 p34 r (inr (inr (inr (inr (inr (inr (inr (inl (inr (inr (inr (inr (inl is))))))))))))) = subst P (sym is) p24
each_rule P p0 p1 p2 p3 p4 p5 p6 p7 p8 p9 p10 p11 p12 p13 p14 p15 p16 p17 p18 p19 p20 p21 p22 p23 p24 p25 p26 p27 p28 p29 p30 p31 p32 p33 p34 r (inr (inr (inr (inr (inr (inr (inr (inl (inr (inr (inr (inr (inr (n)))))))))))))) = absurd n
each_rule P p0 p1 p2 p3 p4 p5 p6 p7 p8 p9 p10 p11 p12 p13 p14 p15 p16 p17 p18 p19 p20 p21 p22 p23 p24 p25 p26 p27 p28 p29 p30 p31 p32 p33 p34 r (inr (inr (inr (inr (inr (inr (inr (inr (inl (inl is)))))))))) = subst P (sym is) p25
each_rule P p0 p1 p2 p3 p4 p5 p6 p7 p8 p9 p10 p11 p12 p13 p14 p15 p16 p17 p18 p19 p20 p21 p22 p23 p24 p25 p26 p27 p28 p29 p30 p31 p32 p33 p34 r (inr (inr (inr (inr (inr (inr (inr (inr (inl (inr (inl is))))))))))) = subst P (sym is) p26
each_rule P p0 p1 p2 p3 p4 p5 p6 p7 p8 p9 p10 p11 p12 p13 p14 p15 p16 p17 p18 p19 p20 p21 p22 p23 p24 p25 p26 p27 p28 p29 p30 p31 p32 p33 p34 r (inr (inr (inr (inr (inr (inr (inr (inr (inl (inr (inr (inl is)))))))))))) = subst P (sym is) p27
each_rule P p0 p1 p2 p3 p4 p5 p6 p7 p8 p9 p10 p11 p12 p13 p14 p15 p16 p17 p18 p19 p20 p21 p22 p23 p24 p25 p26 p27 p28 p29 p30 p31 p32 p33 p34 r (inr (inr (inr (inr (inr (inr (inr (inr (inl (inr (inr (inr (inl is))))))))))))) = subst P (sym is) p28
each_rule P p0 p1 p2 p3 p4 p5 p6 p7 p8 p9 p10 p11 p12 p13 p14 p15 p16 p17 p18 p19 p20 p21 p22 p23 p24 p25 p26 p27 p28 p29 p30 p31 p32 p33 p34 r (inr (inr (inr (inr (inr (inr (inr (inr (inl (inr (inr (inr (inr (n)))))))))))))) = absurd n
each_rule P p0 p1 p2 p3 p4 p5 p6 p7 p8 p9 p10 p11 p12 p13 p14 p15 p16 p17 p18 p19 p20 p21 p22 p23 p24 p25 p26 p27 p28 p29 p30 p31 p32 p33 p34 r (inr (inr (inr (inr (inr (inr (inr (inr (inr (inl (inl is))))))))))) = subst P (sym is) p29
each_rule P p0 p1 p2 p3 p4 p5 p6 p7 p8 p9 p10 p11 p12 p13 p14 p15 p16 p17 p18 p19 p20 p21 p22 p23 p24 p25 p26 p27 p28 p29 p30 p31 p32 p33 p34 r (inr (inr (inr (inr (inr (inr (inr (inr (inr (inl (inr (inl is)))))))))))) = subst P (sym is) p30
each_rule P p0 p1 p2 p3 p4 p5 p6 p7 p8 p9 p10 p11 p12 p13 p14 p15 p16 p17 p18 p19 p20 p21 p22 p23 p24 p25 p26 p27 p28 p29 p30 p31 p32 p33 p34 r (inr (inr (inr (inr (inr (inr (inr (inr (inr (inl (inr (inr (n))))))))))))) = absurd n
each_rule P p0 p1 p2 p3 p4 p5 p6 p7 p8 p9 p10 p11 p12 p13 p14 p15 p16 p17 p18 p19 p20 p21 p22 p23 p24 p25 p26 p27 p28 p29 p30 p31 p32 p33 p34 r (inr (inr (inr (inr (inr (inr (inr (inr (inr (inr (inl (inl is)))))))))))) = subst P (sym is) p31
each_rule P p0 p1 p2 p3 p4 p5 p6 p7 p8 p9 p10 p11 p12 p13 p14 p15 p16 p17 p18 p19 p20 p21 p22 p23 p24 p25 p26 p27 p28 p29 p30 p31 p32 p33 p34 r (inr (inr (inr (inr (inr (inr (inr (inr (inr (inr (inl (inr (n))))))))))))) = absurd n
each_rule P p0 p1 p2 p3 p4 p5 p6 p7 p8 p9 p10 p11 p12 p13 p14 p15 p16 p17 p18 p19 p20 p21 p22 p23 p24 p25 p26 p27 p28 p29 p30 p31 p32 p33 p34 r (inr (inr (inr (inr (inr (inr (inr (inr (inr (inr (inr (inl (inl is))))))))))))) = subst P (sym is) p32
each_rule P p0 p1 p2 p3 p4 p5 p6 p7 p8 p9 p10 p11 p12 p13 p14 p15 p16 p17 p18 p19 p20 p21 p22 p23 p24 p25 p26 p27 p28 p29 p30 p31 p32 p33 p34 r (inr (inr (inr (inr (inr (inr (inr (inr (inr (inr (inr (inl (inr (inl is)))))))))))))) = subst P (sym is) p33
each_rule P p0 p1 p2 p3 p4 p5 p6 p7 p8 p9 p10 p11 p12 p13 p14 p15 p16 p17 p18 p19 p20 p21 p22 p23 p24 p25 p26 p27 p28 p29 p30 p31 p32 p33 p34 r (inr (inr (inr (inr (inr (inr (inr (inr (inr (inr (inr (inl (inr (inr (n))))))))))))))) = absurd n
each_rule P p0 p1 p2 p3 p4 p5 p6 p7 p8 p9 p10 p11 p12 p13 p14 p15 p16 p17 p18 p19 p20 p21 p22 p23 p24 p25 p26 p27 p28 p29 p30 p31 p32 p33 p34 r (inr (inr (inr (inr (inr (inr (inr (inr (inr (inr (inr (inr (inl (inl is)))))))))))))) = subst P (sym is) p34
each_rule P p0 p1 p2 p3 p4 p5 p6 p7 p8 p9 p10 p11 p12 p13 p14 p15 p16 p17 p18 p19 p20 p21 p22 p23 p24 p25 p26 p27 p28 p29 p30 p31 p32 p33 p34 r (inr (inr (inr (inr (inr (inr (inr (inr (inr (inr (inr (inr (inl (inr (n))))))))))))))) = absurd n
each_rule P p0 p1 p2 p3 p4 p5 p6 p7 p8 p9 p10 p11 p12 p13 p14 p15 p16 p17 p18 p19 p20 p21 p22 p23 p24 p25 p26 p27 p28 p29 p30 p31 p32 p33 p34 r (inr (inr (inr (inr (inr (inr (inr (inr (inr (inr (inr (inr (inr (n)))))))))))))) = absurd n

decoded : ℕ → Rule
decoded n = if nat_eq n 9 then Charts else (if nat_eq n 10 then Instances else (if nat_eq n 11 then Nodes else (if nat_eq n 12 then LoopBound else (if nat_eq n 13 then NamedTwice else (if nat_eq n 14 then Undeclared else (if nat_eq n 15 then MissingChart else (if nat_eq n 16 then Recursive else (if nat_eq n 17 then Uncovered else (if nat_eq n 18 then ExpandedNesting else (if nat_eq n 19 then Size else (if nat_eq n 20 then Total else (if nat_eq n 21 then NotShared else (if nat_eq n 22 then OperandsDiffer else (if nat_eq n 23 then ExcPlace else (if nat_eq n 41 then CreatePlace else (if nat_eq n 42 then CreateTwice else (if nat_eq n 43 then AfterStop else (if nat_eq n 24 then Crossed else (if nat_eq n 25 then Unmatched else (if nat_eq n 26 then NoGate else (if nat_eq n 27 then GateTwice else (if nat_eq n 28 then GateWays else (if nat_eq n 29 then GateSplit else (if nat_eq n 30 then GateOnLoop else (if nat_eq n 31 then DecompositionMismatch else (if nat_eq n 32 then SharedPart else (if nat_eq n 33 then Inside else (if nat_eq n 34 then LocalEvent else (if nat_eq n 35 then UnknownEvent else (if nat_eq n 36 then EventNamedTwice else (if nat_eq n 37 then Cyclic else (if nat_eq n 38 then UnknownLabel else (if nat_eq n 39 then LabelNamedTwice else Endless)))))))))))))))))))))))))))))))))

decodes : (r : Rule) → IsInSome all_groups r → decoded (number_of r) ≡ r
unfolding decoded
decodes = each_rule (λ r. decoded (number_of r) ≡ r) refl refl refl refl refl refl refl refl refl refl refl refl refl refl refl refl refl refl refl refl refl refl refl refl refl refl refl refl refl refl refl refl refl refl refl

-- a rule that charts break is in one of the groups
in_some : (charts : List Chart) (r : Rule) (p : Place) → BreaksOf charts r p → IsInSome all_groups r
in_some charts Bytes p b = absurd b
in_some charts BadByte p b = absurd b
in_some charts OpenString p b = absurd b
in_some charts OpenNote p b = absurd b
in_some charts LongName p b = absurd b
in_some charts Syntax p b = absurd b
in_some charts (Unsupported form) p b = absurd b
in_some charts TooDeep p b = absurd b
in_some charts Charts p b = inl (inl refl)
in_some charts Instances p b = inl (inr (inl refl))
in_some charts Nodes p b = inl (inr (inr (inl refl)))
in_some charts LoopBound p b = inl (inr (inr (inr (inl refl))))
in_some charts NamedTwice p b = inr (inl (inl refl))
in_some charts Undeclared p b = inr (inl (inr (inl refl)))
in_some charts MissingChart p b = inr (inr (inl (inl refl)))
in_some charts Recursive p b = inr (inr (inl (inr (inl refl))))
in_some charts Uncovered p b = inr (inr (inl (inr (inr (inl refl)))))
in_some charts ExpandedNesting p b = inr (inr (inr (inl (inl refl))))
in_some charts Size p b = inr (inr (inr (inl (inr (inl refl)))))
in_some charts Total p b = inr (inr (inr (inl (inr (inr (inl refl))))))
in_some charts NotShared p b = inr (inr (inr (inr (inl (inl refl)))))
in_some charts OperandsDiffer p b = inr (inr (inr (inr (inl (inr (inl refl))))))
in_some charts ExcPlace p b = inr (inr (inr (inr (inl (inr (inr (inl refl)))))))
in_some charts Crossed p b = inr (inr (inr (inr (inr (inl (inl refl))))))
in_some charts Unmatched p b = inr (inr (inr (inr (inr (inr (inl (inl refl)))))))
in_some charts NoGate p b = inr (inr (inr (inr (inr (inr (inr (inl (inl refl))))))))
in_some charts GateTwice p b = inr (inr (inr (inr (inr (inr (inr (inl (inr (inl refl)))))))))
in_some charts GateWays p b = inr (inr (inr (inr (inr (inr (inr (inl (inr (inr (inl refl))))))))))
in_some charts GateSplit p b = inr (inr (inr (inr (inr (inr (inr (inl (inr (inr (inr (inl refl)))))))))))
in_some charts GateOnLoop p b = inr (inr (inr (inr (inr (inr (inr (inl (inr (inr (inr (inr (inl refl))))))))))))
in_some charts DecompositionMismatch p b = inr (inr (inr (inr (inr (inr (inr (inr (inl (inl refl)))))))))
in_some charts SharedPart p b = inr (inr (inr (inr (inr (inr (inr (inr (inl (inr (inl refl))))))))))
in_some charts Inside p b = inr (inr (inr (inr (inr (inr (inr (inr (inl (inr (inr (inl refl)))))))))))
in_some charts LocalEvent p b = inr (inr (inr (inr (inr (inr (inr (inr (inl (inr (inr (inr (inl refl))))))))))))
in_some charts UnknownEvent p b = inr (inr (inr (inr (inr (inr (inr (inr (inr (inl (inl refl))))))))))
in_some charts EventNamedTwice p b = inr (inr (inr (inr (inr (inr (inr (inr (inr (inl (inr (inl refl)))))))))))
in_some charts Cyclic p b = inr (inr (inr (inr (inr (inr (inr (inr (inr (inr (inl (inl refl)))))))))))
in_some charts UnknownLabel p b = inr (inr (inr (inr (inr (inr (inr (inr (inr (inr (inr (inl (inl refl))))))))))))
in_some charts LabelNamedTwice p b = inr (inr (inr (inr (inr (inr (inr (inr (inr (inr (inr (inl (inr (inl refl)))))))))))))
in_some charts Endless p b = inr (inr (inr (inr (inr (inr (inr (inr (inr (inr (inr (inr (inl (inl refl)))))))))))))
in_some charts CreatePlace p b = inr (inr (inr (inr (inl (inr (inr (inr (inl refl))))))))
in_some charts CreateTwice p b = inr (inr (inr (inr (inl (inr (inr (inr (inr (inl refl)))))))))
in_some charts AfterStop p b = inr (inr (inr (inr (inl (inr (inr (inr (inr (inr (inl refl))))))))))

one_number : (charts : List Chart) (r s : Rule) (p q : Place) → BreaksOf charts r p → BreaksOf charts s q → number_of r ≡ number_of s → r ≡ s
one_number charts r s p q a b e = sym (decodes r (in_some charts r p a)) ∙ ap decoded e ∙ decodes s (in_some charts s q b)

in_one : (a r : Rule) → IsAmong (a ∷ []) r → group_of r ≡ group_of a
in_one a r h = elim h [ inl e ↦ ap group_of e | inr n ↦ absurd n ]

in_two : (a b r : Rule) → group_of b ≡ group_of a → IsAmong (a ∷ b ∷ []) r → group_of r ≡ group_of a
in_two a b r same h = elim h [ inl e ↦ ap group_of e | inr m ↦ in_one b r m ∙ same ]

in_three : (a b c r : Rule) → group_of b ≡ group_of a → group_of c ≡ group_of b → IsAmong (a ∷ b ∷ c ∷ []) r → group_of r ≡ group_of a
in_three a b c r same alike h = elim h [ inl e ↦ ap group_of e | inr m ↦ in_two b c r alike m ∙ same ]

in_parts : (r : Rule) → IsAmong parts r → group_of r ≡ group_of NotShared
in_parts r (inl e) = ap group_of e
in_parts r (inr (inl e)) = ap group_of e
in_parts r (inr (inr (inl e))) = ap group_of e
in_parts r (inr (inr (inr m))) = in_three CreatePlace CreateTwice AfterStop r refl refl m

in_gates : (r : Rule) → IsAmong gates r → group_of r ≡ group_of NoGate
in_gates r (inl e) = ap group_of e
in_gates r (inr (inl e)) = ap group_of e
in_gates r (inr (inr m)) = in_three GateWays GateSplit GateOnLoop r refl refl m

in_decompositions : (r : Rule) → IsAmong decompositions r → group_of r ≡ group_of LocalEvent
in_decompositions r (inl e) = ap group_of e
in_decompositions r (inr m) = in_three SharedPart Inside LocalEvent r refl refl m

in_limits : (r : Rule) → IsAmong limits r → group_of r ≡ group_of Charts
in_limits r (inl e) = ap group_of e
in_limits r (inr m) = in_three Instances Nodes LoopBound r refl refl m

low_endings : (s : Rule) → IsInSome (endings ∷ []) s → 15 ≤ group_of s
low_endings s h = elim h [ inl m ↦ omega (arith, in_one Endless s m) | inr n ↦ absurd n ]

low_labels : (s : Rule) → IsInSome (labels ∷ endings ∷ []) s → 14 ≤ group_of s
low_labels s h = elim h [ inl m ↦ omega (arith, in_two UnknownLabel LabelNamedTwice s refl m) | inr n ↦ omega (arith, low_endings s n) ]

low_cycles : (s : Rule) → IsInSome (cycles ∷ labels ∷ endings ∷ []) s → 13 ≤ group_of s
low_cycles s h = elim h [ inl m ↦ omega (arith, in_one Cyclic s m) | inr n ↦ omega (arith, low_labels s n) ]

low_event_names : (s : Rule) → IsInSome (event_names ∷ cycles ∷ labels ∷ endings ∷ []) s → 12 ≤ group_of s
low_event_names s h = elim h [ inl m ↦ omega (arith, in_two UnknownEvent EventNamedTwice s refl m) | inr n ↦ omega (arith, low_cycles s n) ]

low_decompositions : (s : Rule) → IsInSome (decompositions ∷ event_names ∷ cycles ∷ labels ∷ endings ∷ []) s → 11 ≤ group_of s
low_decompositions s h = elim h [ inl m ↦ omega (arith, in_decompositions s m) | inr n ↦ omega (arith, low_event_names s n) ]

low_gates : (s : Rule) → IsInSome (gates ∷ decompositions ∷ event_names ∷ cycles ∷ labels ∷ endings ∷ []) s → 10 ≤ group_of s
low_gates s h = elim h [ inl m ↦ omega (arith, in_gates s m) | inr n ↦ omega (arith, low_decompositions s n) ]

low_messages : (s : Rule) → IsInSome (messages ∷ gates ∷ decompositions ∷ event_names ∷ cycles ∷ labels ∷ endings ∷ []) s → 9 ≤ group_of s
low_messages s h = elim h [ inl m ↦ omega (arith, in_one Unmatched s m) | inr n ↦ omega (arith, low_gates s n) ]

low_columns : (s : Rule) → IsInSome (columns ∷ messages ∷ gates ∷ decompositions ∷ event_names ∷ cycles ∷ labels ∷ endings ∷ []) s → 8 ≤ group_of s
low_columns s h = elim h [ inl m ↦ omega (arith, in_one Crossed s m) | inr n ↦ omega (arith, low_messages s n) ]

low_parts : (s : Rule) → IsInSome (parts ∷ columns ∷ messages ∷ gates ∷ decompositions ∷ event_names ∷ cycles ∷ labels ∷ endings ∷ []) s → 7 ≤ group_of s
low_parts s h = elim h [ inl m ↦ omega (arith, in_parts s m) | inr n ↦ omega (arith, low_columns s n) ]

low_sizes : (s : Rule) → IsInSome (sizes ∷ parts ∷ columns ∷ messages ∷ gates ∷ decompositions ∷ event_names ∷ cycles ∷ labels ∷ endings ∷ []) s → 6 ≤ group_of s
low_sizes s h = elim h [ inl m ↦ omega (arith, in_three ExpandedNesting Size Total s refl refl m) | inr n ↦ omega (arith, low_parts s n) ]

low_references : (s : Rule) → IsInSome (references ∷ sizes ∷ parts ∷ columns ∷ messages ∷ gates ∷ decompositions ∷ event_names ∷ cycles ∷ labels ∷ endings ∷ []) s → 5 ≤ group_of s
low_references s h = elim h [ inl m ↦ omega (arith, in_three MissingChart Recursive Uncovered s refl refl m) | inr n ↦ omega (arith, low_sizes s n) ]

low_names : (s : Rule) → IsInSome (names ∷ references ∷ sizes ∷ parts ∷ columns ∷ messages ∷ gates ∷ decompositions ∷ event_names ∷ cycles ∷ labels ∷ endings ∷ []) s → 4 ≤ group_of s
low_names s h = elim h [ inl m ↦ omega (arith, in_two NamedTwice Undeclared s refl m) | inr n ↦ omega (arith, low_references s n) ]

are_groups : AreGroups group_of all_groups
are_groups = (λ r s m n. in_limits r m ∙ sym (in_limits s n), λ r s m n. omega (arith, in_limits r m, low_names s n), (λ r s m n. in_two NamedTwice Undeclared r refl m ∙ sym (in_two NamedTwice Undeclared s refl n), λ r s m n. omega (arith, in_two NamedTwice Undeclared r refl m, low_references s n), (λ r s m n. in_three MissingChart Recursive Uncovered r refl refl m ∙ sym (in_three MissingChart Recursive Uncovered s refl refl n), λ r s m n. omega (arith, in_three MissingChart Recursive Uncovered r refl refl m, low_sizes s n), (λ r s m n. in_three ExpandedNesting Size Total r refl refl m ∙ sym (in_three ExpandedNesting Size Total s refl refl n), λ r s m n. omega (arith, in_three ExpandedNesting Size Total r refl refl m, low_parts s n), (λ r s m n. in_parts r m ∙ sym (in_parts s n), λ r s m n. omega (arith, in_parts r m, low_columns s n), (λ r s m n. in_one Crossed r m ∙ sym (in_one Crossed s n), λ r s m n. omega (arith, in_one Crossed r m, low_messages s n), (λ r s m n. in_one Unmatched r m ∙ sym (in_one Unmatched s n), λ r s m n. omega (arith, in_one Unmatched r m, low_gates s n), (λ r s m n. in_gates r m ∙ sym (in_gates s n), λ r s m n. omega (arith, in_gates r m, low_decompositions s n), (λ r s m n. in_decompositions r m ∙ sym (in_decompositions s n), λ r s m n. omega (arith, in_decompositions r m, low_event_names s n), (λ r s m n. in_two UnknownEvent EventNamedTwice r refl m ∙ sym (in_two UnknownEvent EventNamedTwice s refl n), λ r s m n. omega (arith, in_two UnknownEvent EventNamedTwice r refl m, low_cycles s n), (λ r s m n. in_one Cyclic r m ∙ sym (in_one Cyclic s n), λ r s m n. omega (arith, in_one Cyclic r m, low_labels s n), (λ r s m n. in_two UnknownLabel LabelNamedTwice r refl m ∙ sym (in_two UnknownLabel LabelNamedTwice s refl n), λ r s m n. omega (arith, in_two UnknownLabel LabelNamedTwice r refl m, low_endings s n), (λ r s m n. in_one Endless r m ∙ sym (in_one Endless s n), λ r s m n. absurd n, tt)))))))))))))

-- ---- what charts come to

pub none_of : (charts : List Chart) (rules : List Rule) (x : Option (Broken Rule)) → x ≡ None → IsBest number_of (BreaksOf charts) rules x → IsBest number_of (BreaksOf charts) rules None
none_of charts rules x e h = subst (λ (o : Option (Broken Rule)). IsBest number_of (BreaksOf charts) rules o) e h

-- the first fault of these groups is that of these and more
pub first_left : (charts : List Chart) (groups others : List (List Rule)) (fault : Broken Rule) → IsFirst number_of (BreaksOf charts) groups fault → IsFirst number_of (BreaksOf charts) (groups ++ others) fault
first_left charts [] others fault h = absurd h
first_left charts (rules ∷ groups) others fault (inl h) = inl h
first_left charts (rules ∷ groups) others fault (inr h) = inr (h.0, first_left charts groups others fault h.1)

-- where these are kept, the first fault of others is that of both
pub first_right : (charts : List Chart) (groups others : List (List Rule)) (fault : Broken Rule) → AllKept (BreaksOf charts) groups → IsFirst number_of (BreaksOf charts) others fault → IsFirst number_of (BreaksOf charts) (groups ++ others) fault
first_right charts [] others fault kept h = h
first_right charts (rules ∷ groups) others fault kept h = inr (kept.0, first_right charts groups others fault kept.1 h)

pub kept_both : (charts : List Chart) (groups others : List (List Rule)) → AllKept (BreaksOf charts) groups → AllKept (BreaksOf charts) others → AllKept (BreaksOf charts) (groups ++ others)
kept_both charts [] others kept h = h
kept_both charts (rules ∷ groups) others kept h = (kept.0, kept_both charts groups others kept.1 h)

pub kept_left : (charts : List Chart) (groups others : List (List Rule)) → AllKept (BreaksOf charts) (groups ++ others) → AllKept (BreaksOf charts) groups
kept_left charts [] others kept = tt
kept_left charts (rules ∷ groups) others kept = (kept.0, kept_left charts groups others kept.1)

pub kept_right : (charts : List Chart) (groups others : List (List Rule)) → AllKept (BreaksOf charts) (groups ++ others) → AllKept (BreaksOf charts) others
kept_right charts [] others kept = kept
kept_right charts (rules ∷ groups) others kept = kept_right charts groups others kept.1

-- where all groups but the last are kept, the first fault of the text is that of its last group
pub first_of_text : (charts : List Chart) (o : Option (Broken Rule)) → IsBest number_of (BreaksOf charts) limits None → IsBest number_of (BreaksOf charts) names None
    → IsFirstOf charts link_groups None → IsBest number_of (BreaksOf charts) parts o → IsFirstOf charts text_groups o
first_of_text charts None a b c h = (a, (b, (c.0, (c.1.0, (h, tt)))))
first_of_text charts (Some fault) a b c h = inr (a, inr (b, inr (c.0, inr (c.1.0, inl h))))

-- the first fault of links, where the groups before are kept
pub first_link : (charts : List Chart) (fault : Broken Rule) → IsBest number_of (BreaksOf charts) limits None → IsBest number_of (BreaksOf charts) names None
    → IsFirstOf charts link_groups (Some fault) → IsFirstOf charts text_groups (Some fault)
first_link charts fault a b (inl h) = inr (a, inr (b, inl h))
first_link charts fault a b (inr (k, inl h)) = inr (a, inr (b, inr (k, inl h)))
first_link charts fault a b (inr (k, inr n)) = absurd n.1

-- of links: where references keep the rules, the first fault is one of sizes
pub first_of_links : (charts : List Chart) (o : Option (Broken Rule)) → IsBest number_of (BreaksOf charts) references None → IsBest number_of (BreaksOf charts) sizes o → IsFirstOf charts link_groups o
first_of_links charts None a h = (a, (h, tt))
first_of_links charts (Some fault) a h = inr (a, inl h)

-- of the bodies
pub columns_kept : (charts : List Chart) → IsLeast (InOne CrossesAt charts) None → Keeps (BreaksOf charts) columns
columns_kept charts none = one_best charts Crossed None none

pub messages_kept : (charts : List Chart) → IsLeast (InOne IsAloneAt charts) None → Keeps (BreaksOf charts) messages
messages_kept charts none = one_best charts Unmatched None none

pub crossed_first : (charts : List Chart) (p : Place) → IsLeast (InOne CrossesAt charts) (Some p) → IsFirstOf charts body_groups (Some (record { rule = Crossed; place = p }))
crossed_first charts p h = inl (one_best charts Crossed (Some p) h)

pub alone_first : (charts : List Chart) (p : Place) → IsLeast (InOne CrossesAt charts) None → IsLeast (InOne IsAloneAt charts) (Some p) → IsFirstOf charts body_groups (Some (record { rule = Unmatched; place = p }))
alone_first charts p none h = inr (columns_kept charts none, inl (one_best charts Unmatched (Some p) h))

pub bodies_kept : (charts : List Chart) → IsLeast (InOne CrossesAt charts) None → IsLeast (InOne IsAloneAt charts) None → IsFirstOf charts body_groups None
bodies_kept charts none matched = (columns_kept charts none, (messages_kept charts matched, tt))

-- where gates keep the rules, the first fault is one of decomposed instances, and where these do too, one of the names of events
pub gate_first : (charts : List Chart) (fault : Broken Rule) → IsBest number_of (BreaksOf charts) gates (Some fault) → IsFirstOf charts gate_groups (Some fault)
gate_first charts fault h = inl h

pub decomposition_first : (charts : List Chart) (fault : Broken Rule) → IsBest number_of (BreaksOf charts) gates None → IsBest number_of (BreaksOf charts) decompositions (Some fault) → IsFirstOf charts gate_groups (Some fault)
decomposition_first charts fault kept h = inr (kept, inl h)

pub event_name_first : (charts : List Chart) (o : Option (Broken Rule)) → IsBest number_of (BreaksOf charts) gates None → IsBest number_of (BreaksOf charts) decompositions None → IsBest number_of (BreaksOf charts) event_names o → IsFirstOf charts gate_groups o
event_name_first charts None kept whole h = (kept, (whole, (h, tt)))
event_name_first charts (Some fault) kept whole h = inr (kept, inr (whole, inl h))

-- and where these keep them too, a cycle
pub cycle_kept : (charts : List Chart) → AllKept (BreaksOf charts) gate_groups → IsLeast (IsCyclicAt charts) None → AllKept (BreaksOf charts) table_groups
cycle_kept charts kept h = kept_both charts gate_groups (cycles ∷ []) kept (one_best charts Cyclic None h, tt)

pub cycle_first : (charts : List Chart) (place : Place) → AllKept (BreaksOf charts) gate_groups → IsLeast (IsCyclicAt charts) (Some place) → IsFirst number_of (BreaksOf charts) table_groups (record { rule = Cyclic; place = place })
cycle_first charts place kept h = first_right charts gate_groups (cycles ∷ []) (record { rule = Cyclic; place = place }) kept (inl (one_best charts Cyclic (Some place) h))

-- ---- graphs, behind all others

-- where no label is faulty, the first fault of graphs is that of their ends
pub label_first : (charts : List Chart) (fault : Broken Rule) → IsBest number_of (BreaksOf charts) labels (Some fault) → IsFirstOf charts graph_groups (Some fault)
label_first charts fault h = inl h

pub ending_first : (charts : List Chart) (o : Option (Broken Rule)) → IsBest number_of (BreaksOf charts) labels None → IsBest number_of (BreaksOf charts) endings o → IsFirstOf charts graph_groups o
ending_first charts None kept h = (kept, (h, tt))
ending_first charts (Some fault) kept h = inr (kept, inl h)

-- ---- documents

pub free : (charts : List Chart) → AllKept (BreaksOf charts) all_groups → IsFaultless (BreaksOf charts)
free charts kept = faultless (BreaksOf charts) all_groups (in_some charts) kept

pub accepted : (d : Document) (table : Table) → AllKept (BreaksOf d.charts) all_groups → AreEntriesOf instances d.charts table → IsAccepted d table
accepted d table kept are = record { faultless = free d.charts kept; woven = are }

pub has_fault : (d : Document) (f : Broken Rule) → IsFirst number_of (BreaksOf d.charts) all_groups f → HasFault d f.rule f.place
has_fault d f h = record { first = first_fault number_of group_of (BreaksOf d.charts) all_groups f are_groups (in_some d.charts) h }

pub only_fault : (d : Document) (rule other : Rule) (place there : Place) → HasFault d rule place → HasFault d other there → (other ≡ rule) × (there ≡ place)
only_fault d rule other place there a b =
    let f : Broken Rule = record { rule = rule; place = place } in
    let g : Broken Rule = record { rule = other; place = there } in
    let same : f ≡ g = one_first_fault number_of group_of (Breaks d) f g (one_number d.charts) a.first b.first in
    (ap (λ (x : Broken Rule). x.rule) (sym same), ap (λ (x : Broken Rule). x.place) (sym same))

pub accepted_faultless : (d : Document) (table : Table) → IsAccepted d table → (rule : Rule) (place : Place) → HasFault d rule place → ⊥
accepted_faultless d table a rule place f = a.faultless rule place f.first.broken

entries_long : (charts : List Chart) (table : Table) → AreEntriesOf instances charts table → length charts ≡ length table
entries_long [] [] h = refl
entries_long [] (e ∷ table) h = elim h [ ]
entries_long (c ∷ charts) [] h = elim h [ ]
entries_long (c ∷ charts) (e ∷ table) (entry_and is others) = omega (arith, entries_long charts table others)

pub few : (charts : List Chart) (entries : List code.ChartEntry) → AllKept (BreaksOf charts) text_groups → AreEntriesOf instances charts (table_view entries) → length entries ≤ CHARTS
few charts entries texts are = elim (cases_lt CHARTS (length charts)) [
  | inl lt ↦ let s = some_at charts CHARTS lt in absurd (texts.0 Charts s.0.place (inl refl) (ap (option_map (λ (c : Chart). c.place)) s.1))
  | inr ge ↦ omega (arith, entries_long charts (table_view entries) are, length-map entries entry_view, ge)
]
