use Rattle.std.proofs.Common.{subst, Option}
use Rattle.clap.specs.Words.{found_of}
use Rattle.msc_requests.specs.declared.request.Request.{Request}
use Rattle.msc_requests.specs.Requests.{Answers}
use Rattle.msc_requests.proofs.WordLaws.{first_document}
use Rattle.msc_requests.proofs.requests.print_of_matches.Goals as goal

pub returns : goal.returns
returns c = subst (λ (o : Option Request). Answers o c.print_of_text.result) (first_document (found_of c.args.matches.now) _ c.get_str.ensures) c.print_of_text.ensures
