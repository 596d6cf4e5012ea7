use Rattle.std.proofs.Common.{◌≡◌, ◌∙◌, ◌∷◌, List, Bor, ℕ, ap, map, rules, true}
use Rattle.std.specs.List.{list_all}
use Rattle.std.specs.Str.{is_utf8}
use Rattle.msc_requests.proofs.WordLaws.{commanded}
use Rattle.msc_requests.proofs.requests.request_of.Goals as goal

pub returns : goal.returns
returns c =
    let words : c.args.words.now ≡ c.in-Some.command.now ∷ c.in-Some.rest.now = search rules in
    let utf8 : list_all is_utf8 c.in-Some.rest.now ≡ true = search rules in
    let texts : map (λ w. w.now) c.in_ok-texts.texts.items ≡ c.in-Some.rest.now = search rules in
    let same : map (λ w. w.now) c.as_slice-2.result.now ≡ c.in-Some.rest.now = ap (λ (ws : List (Bor (List ℕ))). map (λ w. w.now) ws) c.as_slice-2.ensures.value ∙ texts in
    commanded c.in-Some.command.now c.in-Some.rest.now (map (λ w. w.now) c.as_slice-2.result.now) c.args.words.now c.command_words.result words utf8 same c.command_words.ensures
