use Rattle.std.proofs.Common.{◌≡◌, drop, codes}
use Rattle.msc_print.specs.Pages.{put_all}
use Rattle.msc_print.specs.Words.{each_behind}
use Rattle.msc_print.specs.GraphWords.{label_word}
use Rattle.msc_print.proofs.graph.other_labels.Given as goal

-- what is still to be written, behind what was, is the whole
abbrev pub invariant-loop-label : goal.invariant-loop-label
invariant-loop-label l = put_all l.page (each_behind (codes "alt") label_word (drop l.label-index l.labels)) ≡ put_all l.initial.page (each_behind (codes "alt") label_word l.labels)
