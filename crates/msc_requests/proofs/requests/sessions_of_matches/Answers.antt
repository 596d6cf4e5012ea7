use Rattle.std.proofs.Common.{subst, Option}
use Rattle.clap.specs.Words.{found_of}
use Rattle.msc_requests.specs.declared.request.Request.{Request}
use Rattle.msc_requests.specs.Requests.{Answers}
use Rattle.msc_requests.proofs.WordLaws.{sessions_firsts}
use Rattle.msc_requests.proofs.requests.sessions_of_matches.Goals as goal

pub returns : goal.returns
returns c = subst (λ (o : Option Request). Answers o c.sessions_of_texts.result)
    (sessions_firsts (found_of c.args.matches.now) _ _ _ _ _ c.get_str.ensures c.get_str-2.ensures c.get_str-3.ensures c.get_str-4.ensures c.get_str-5.ensures)
    c.sessions_of_texts.ensures
