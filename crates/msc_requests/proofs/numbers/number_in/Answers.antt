use Rattle.std.proofs.Common.{◌≡◌, ◌∙◌, Ok, Err, true, rules, sym}
use Rattle.std.specs.Str.Parse.{digits_value}
use Rattle.msc_requests.specs.Requests.{is_number}
use Rattle.msc_requests.proofs.Digits.{number_parsed}
use Rattle.msc_requests.proofs.numbers.number_in.Goals as goal

pub returns-in-Err : goal.returns-in-Err
returns-in-Err c =
    let digits : is_number c.args.digits c.args.text.now ≡ true = search rules in
    let parsed : c.parse.result ≡ Ok (digits_value 10 c.args.text.now) = number_parsed c.args.digits c.args.text.now c.parse.result c.parse.ensures.value.0 c.requires digits in
    let was : c.parse.result ≡ Err c.in-Err.field-0 = c.in-Err.is in
    let bad = sym was ∙ parsed in
    cc
