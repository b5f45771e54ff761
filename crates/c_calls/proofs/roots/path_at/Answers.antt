use Rattle.std.proofs.Common.{◌≡◌, ℕ, ◌+◌, ◌*◌, ◌<◌, ◌≤◌, length, ap, rules, arith}
use Rattle.hash_trees.specs.Steps.{path_steps}
use Rattle.c_calls.proofs.PathCounts.{most}
use Rattle.c_calls.proofs.roots.path_at.Goals as goal

pub overflow_add-result : goal.overflow_add-result
overflow_add-result c =
    let room = path_steps c.args.total 0 in
    let few = most c.args.total c.args.index (omega arith) in
    let turn : (c.args.t + 1) * room ≡ c.args.t * room + room = grind arith in
    let first : c.args.t * c.path_steps.result ≡ c.args.t * room = ap (λ (r : ℕ). c.args.t * r) c.path_steps.ensures in
    let fits : c.args.t * c.path_steps.result + c.path_steps-2.result ≤ length c.args.paths.now =
    omega (arith, few, turn, first, c.path_steps-2.ensures, c.requires.within) in
    search rules

pub slice_bounds-result-end-2 : goal.slice_bounds-result-end-2
slice_bounds-result-end-2 c =
    let room = path_steps c.args.total 0 in
    let below : c.args.index < c.args.total = omega arith in
    let few = most c.args.total c.args.index below in
    let turn : (c.args.t + 1) * room ≡ c.args.t * room + room = grind arith in
    let first : c.args.t * c.path_steps.result ≡ c.args.t * room = ap (λ (r : ℕ). c.args.t * r) c.path_steps.ensures in
    let fits : c.args.t * c.path_steps.result + c.path_steps-2.result ≤ length c.args.paths.now =
    omega (arith, few, turn, first, c.path_steps-2.ensures, c.requires.within) in
    fits
