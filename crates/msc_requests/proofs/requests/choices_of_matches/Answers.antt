use Rattle.std.proofs.Common.{subst, Option}
use Rattle.clap.specs.Words.{found_of}
use Rattle.msc_requests.specs.declared.request.Request.{Request}
use Rattle.msc_requests.specs.Requests.{Answers}
use Rattle.msc_requests.proofs.WordLaws.{choices_firsts}
use Rattle.msc_requests.proofs.requests.choices_of_matches.Goals as goal

pub returns : goal.returns
returns c = subst (λ (o : Option Request). Answers o c.choices_of_texts.result) (choices_firsts (found_of c.args.matches.now) _ _ c.get_str.ensures c.get_str-2.ensures) c.choices_of_texts.ensures
