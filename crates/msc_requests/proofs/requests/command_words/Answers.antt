use Rattle.std.proofs.Common.{◌≡◌, codes, rules, subst, sym, Option, map}
use Rattle.msc_requests.specs.declared.request.Request.{Request}
use Rattle.msc_requests.specs.Requests.{Answers}
use Rattle.msc_requests.proofs.WordLaws.{judge_command, check_command, list_command, print_command, sample_command, next_command, sessions_command, choices_command, no_command}
use Rattle.msc_requests.proofs.requests.command_words.Goals as goal

pub returns-then-is_text : goal.returns-then-is_text
returns-then-is_text c =
    let is : c.args.command.now ≡ codes "judge" = search rules in
    subst (λ (o : Option Request). Answers o c.judge_words.result) (sym (judge_command c.args.command.now (map (λ w. w.now) c.args.words.now) is)) c.judge_words.ensures

pub returns-then-is_text-2 : goal.returns-then-is_text-2
returns-then-is_text-2 c =
    let is : c.args.command.now ≡ codes "check" = search rules in
    subst (λ (o : Option Request). Answers o c.check_words.result) (sym (check_command c.args.command.now (map (λ w. w.now) c.args.words.now) is)) c.check_words.ensures

pub returns-then-is_text-3 : goal.returns-then-is_text-3
returns-then-is_text-3 c =
    let is : c.args.command.now ≡ codes "list" = search rules in
    subst (λ (o : Option Request). Answers o c.list_words.result) (sym (list_command c.args.command.now (map (λ w. w.now) c.args.words.now) is)) c.list_words.ensures

pub returns-then-is_text-4 : goal.returns-then-is_text-4
returns-then-is_text-4 c =
    let is : c.args.command.now ≡ codes "print" = search rules in
    subst (λ (o : Option Request). Answers o c.print_words.result) (sym (print_command c.args.command.now (map (λ w. w.now) c.args.words.now) is)) c.print_words.ensures

pub returns-then-is_text-5 : goal.returns-then-is_text-5
returns-then-is_text-5 c =
    let is : c.args.command.now ≡ codes "sample" = search rules in
    subst (λ (o : Option Request). Answers o c.sample_words.result) (sym (sample_command c.args.command.now (map (λ w. w.now) c.args.words.now) is)) c.sample_words.ensures

pub returns-then-is_text-6 : goal.returns-then-is_text-6
returns-then-is_text-6 c =
    let is : c.args.command.now ≡ codes "next" = search rules in
    subst (λ (o : Option Request). Answers o c.next_words.result) (sym (next_command c.args.command.now (map (λ w. w.now) c.args.words.now) is)) c.next_words.ensures

pub returns-then-is_text-7 : goal.returns-then-is_text-7
returns-then-is_text-7 c =
    let is : c.args.command.now ≡ codes "sessions" = search rules in
    subst (λ (o : Option Request). Answers o c.sessions_words.result) (sym (sessions_command c.args.command.now (map (λ w. w.now) c.args.words.now) is)) c.sessions_words.ensures

pub returns-then-is_text-8 : goal.returns-then-is_text-8
returns-then-is_text-8 c =
    let is : c.args.command.now ≡ codes "choices" = search rules in
    subst (λ (o : Option Request). Answers o c.choices_words.result) (sym (choices_command c.args.command.now (map (λ w. w.now) c.args.words.now) is)) c.choices_words.ensures

pub returns : goal.returns
returns c =
    let judge : c.args.command.now ≡ codes "judge" → ⊥ = search rules in
    let check : c.args.command.now ≡ codes "check" → ⊥ = search rules in
    let list : c.args.command.now ≡ codes "list" → ⊥ = search rules in
    let print : c.args.command.now ≡ codes "print" → ⊥ = search rules in
    let sample : c.args.command.now ≡ codes "sample" → ⊥ = search rules in
    let next : c.args.command.now ≡ codes "next" → ⊥ = search rules in
    let sessions : c.args.command.now ≡ codes "sessions" → ⊥ = search rules in
    let choices : c.args.command.now ≡ codes "choices" → ⊥ = search rules in
    no_command c.args.command.now (map (λ w. w.now) c.args.words.now) judge check list print sample next sessions choices
