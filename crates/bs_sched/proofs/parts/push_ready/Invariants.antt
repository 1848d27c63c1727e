use Rattle.std.proofs.Common.{◌≡◌, ◌+◌, ◌++◌, map, length, vec_capacity}
use Rattle.bs_sched.specs.declared.parts.Part.TheVariants as field
use Rattle.bs_sched.proofs.parts.push_ready.Given as goal

-- the parts pushed so far, and the remaining ones
abbrev pub invariant-loop-part : goal.invariant-loop-part
invariant-loop-part g l = record {
  parts : l.parts.items ++ map (λ key. field.Ready key) l.keys.items ≡ map (λ key. field.Ready key) l.fn.keys.items;
  many : length l.keys.items + l._part ≡ length l.fn.keys.items;
  pushed : length l.parts.items ≡ l._part;
  room : vec_capacity l.parts ≡ vec_capacity l.fn.parts;
}
