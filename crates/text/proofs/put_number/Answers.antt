-- The digits that `itoa` spells are the number's decimal text.
use Rattle.std.proofs.Common.{rules, ◌≡◌, ◌∙◌}
use Rattle.std.specs.Fmt.{decimal as spelt}
use Rattle.text.proofs.Puts.{puts_same}
use Rattle.text.proofs.Decimal.{spelt_is}
use Rattle.text.proofs.put_number.Goals as goal

pub returns : goal.returns
returns c =
    let e : c.as_bytes.result.now ≡ spelt c.args.x = search rules in
    puts_same (e ∙ spelt_is c.args.x (search rules)) c.put_word.ensures
