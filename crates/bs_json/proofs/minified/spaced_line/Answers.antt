use Rattle.std.proofs.Common.{◌≡◌, ◌≤◌, false, Some, ap, arith, length, rules, sym, ◌∙◌}
use Rattle.std.specs.List.{list_all}
use Rattle.std.specs.Str.{IsAscii}
use Rattle.bs_json.specs.declared.minified.Place.TheVariants.{Between}
use Rattle.bs_json.specs.inner.Minified.{minified}
use Rattle.bs_json.specs.Line.{is_space, line_of}
use Rattle.bs_json.proofs.MinifiedLines.{found_in, same_line}
use Rattle.bs_json.proofs.minified.spaced_line.Goals as goal

pub returns-in-Some-3 : goal.returns-in-Some-3
returns-in-Some-3 c =
    let version = c.args.version in
    let short = c.in-Some.short.items in
    let line = c.args.line.now in
    let kept : c.in-Some-3.found ≡ c.in-Some-2.lent = search rules in
    let is : c.in-Some-2.lent ≡ line_of version short =
    found_in version c.as_slice-2.result.now c.in_ok-lent.field-0 c.in-Some-2.lent c.in_ok-lent.ensures c.in-Some-2.is ∙ ap (line_of version) c.as_slice-2.ensures.value in
    let found : Some short ≡ minified Between line = rw c.in-Some.is at c.in_ok-short.ensures in
    let ascii : IsAscii line = search rules in
    let shorter : length short ≤ length line = omega arith in
    let left : list_all is_space short ≡ false =
    ap (list_all is_space) (sym c.as_slice.ensures.value) ∙ sym c.is_blank.ensures ∙ c.if-is_blank.false in
    same_line version line short c.in-Some-3.found (kept ∙ is) found ascii c.requires.fits shorter c.requires.some left
