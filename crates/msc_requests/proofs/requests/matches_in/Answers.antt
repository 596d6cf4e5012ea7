use Rattle.std.proofs.Common.{◌∙◌, map}
use Rattle.clap.specs.Words.{app_of}
use Rattle.msc_requests.proofs.WordLaws.{refused}
use Rattle.msc_requests.proofs.requests.matches_in.Goals as goal

pub returns-in-Ok-clause-found : goal.returns-in-Ok-clause-found
returns-in-Ok-clause-found c = (c.in-Ok.ensures.kinds c.requires.free, (c.in-Ok.ensures.matches c.requires.simple).0)

pub returns-clause-none : goal.returns-clause-none
returns-clause-none c = λ _. refused (app_of c.args.command) (map (λ w. w.now) c.args.words.now) c.in-Err.error (c.in-Err.ensures.kinds c.requires.free) (λ m. c.in_default.not-OutOfMemory (c.kind.ensures ∙ m))
