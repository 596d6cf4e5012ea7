use Rattle.std.proofs.Common.{◌∙◌, ap, sym}
use Rattle.certificates.specs.Lines.{lines}
use Rattle.certificate_texts.specs.Texts.{lines_of}
use Rattle.certificate_texts.proofs.certificate.Certificate.lines.Goals as goal

pub returns : goal.returns
returns c = ap lines_of c.as_slice.ensures.value ∙ sym c.self.invariant ∙ ap lines c.self.view_is
