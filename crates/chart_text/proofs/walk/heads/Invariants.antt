use Rattle.std.proofs.Common.{◌≡◌, ◌++◌, drop, map}
use Rattle.chart_text.specs.PassageViews.{text_view}
use Rattle.chart_text.specs.Texts.{a_head}
use Rattle.chart_text.proofs.walk.heads.Given as goal

abbrev pub invariant-loop-decl : goal.invariant-loop-decl
invariant-loop-decl l = text_view l.text.items ++ map a_head (drop l.decl-index l.list) ≡ text_view l.initial.text.items ++ map a_head l.list
