use Rattle.std.proofs.Common.{◌≡◌, ◌++◌, drop, option_map}
use Rattle.bs_json.specs.declared.minified.Place.TheVariants.{Between}
use Rattle.bs_json.specs.inner.Minified.{minified}
use Rattle.bs_json.proofs.minified.minified.Given as goal

-- the bytes so far, and then what is kept of those that are left
abbrev pub invariant-loop-byte : goal.invariant-loop-byte
invariant-loop-byte l = option_map (λ rest. l.short.items ++ rest) (minified l.place (drop l.byte-index l.line)) ≡ minified Between l.line
