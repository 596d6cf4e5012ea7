use Rattle.std.proofs.Common.{◌≡◌, ◌∙◌, ap, rules, map, subst, sym, Result, Err}
use Rattle.clap.specs.Words.{app_of, found_of, is_simple, is_simple_and_free, rows_of}
use Rattle.msc_requests.specs.declared.request.Request.{Request}
use Rattle.msc_requests.specs.declared.request.WordFault.{WordFault}
use Rattle.msc_requests.specs.Requests.{Answers, choices_app, choices_in, choices_request}
use Rattle.msc_requests.proofs.WordLaws.{choices_simple, choices_free, found_answers, none_answered}
use Rattle.msc_requests.proofs.requests.choices_words.Goals as goal

pub matches_in-requires-clause-simple : goal.matches_in-requires-clause-simple
matches_in-requires-clause-simple c =
    let is : app_of c.in-Ok.command ≡ choices_app = search rules in
    ap is_simple is ∙ choices_simple

pub matches_in-requires-clause-free : goal.matches_in-requires-clause-free
matches_in-requires-clause-free c =
    let is : app_of c.in-Ok.command ≡ choices_app = search rules in
    ap is_simple_and_free is ∙ choices_free

pub returns : goal.returns
returns c =
    let is : app_of c.in-Ok.command ≡ choices_app = search rules in
    found_answers choices_app choices_in (app_of c.in-Ok.command) (map (λ w. w.now) c.args.words.now) (rows_of (found_of c.in_ok-matches.matches)) c.choices_of_matches.result is (search rules) c.choices_of_matches.ensures

pub returns-in_err-matches : goal.returns-in_err-matches
returns-in_err-matches c =
    let is : app_of c.in-Ok.command ≡ choices_app = search rules in
    let failed : c.from_residual.result ≡ Err c.in_err-matches.field-0.0 = search rules in
    subst (λ (r : Result Request WordFault). Answers (choices_request (map (λ w. w.now) c.args.words.now)) r) (sym failed)
    (none_answered choices_app choices_in (app_of c.in-Ok.command) (map (λ w. w.now) c.args.words.now) c.in_err-matches.field-0.0 is c.in_err-matches.ensures.none)
