use Rattle.std.proofs.Common.{◌∙◌, codes, decimal, subst}
use Rattle.bs_program.specs.Outcome.{Puts}
use Rattle.bs_program.proofs.Written.{puts_three}
use Rattle.bs_program.proofs.report.put_written.Goals as goal

pub returns : goal.returns
returns g c =
    let digits = c.as_bytes.ensures.value ∙ c.format.ensures.text in
    let number = subst (λ bytes. Puts g.E.Write.contents bytes c.put.new.errors c.put-2.new.errors) digits c.put-2.ensures in
    puts_three g.E.Write.contents (codes "write failed after ") (decimal c.args.written) (codes " bytes") c.args.errors.now c.put.new.errors c.put-2.new.errors c.put-3.new.errors c.put.ensures number c.put-3.ensures
