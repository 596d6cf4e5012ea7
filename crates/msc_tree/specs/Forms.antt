-- The words of inline expressions (Z.120, clause 7.2).
use Rattle.std.specs.Prelude.{ℕ, List, codes}
use Rattle.msc_tree.specs.declared.reference.InlineForm.{InlineForm}
use Rattle.msc_tree.specs.declared.reference.InlineForm.TheVariants.{Alt, Opt, Par, Loop, Exc}

abbrev pub form_text : InlineForm → List ℕ
form_text Alt = codes "alt"
form_text Opt = codes "opt"
form_text Par = codes "par"
form_text Loop = codes "loop"
form_text Exc = codes "exc"
