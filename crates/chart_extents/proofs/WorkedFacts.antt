-- What the worked charts come to.
use Rattle.chart_extents.specs.Extents.{link_and, no_link}
use Rattle.chart_extents.specs.Worked.{ActionsAreSmall, FramesAddUp, UsesAddUp}

pub actions_are_small : ActionsAreSmall
actions_are_small charts name = no_link

pub uses_add_up : UsesAddUp
uses_add_up charts name named e h = link_and h (link_and h no_link)

pub frames_add_up : FramesAddUp
frames_add_up charts name named e h = link_and h no_link
