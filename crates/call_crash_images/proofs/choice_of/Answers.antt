use mathlib.Core.Path.{◌≡◌, ◌∙◌}
use Prim.Native.Nat.{◌-◌}
use lib.Dec.{eqb}
use Rattle.std.proofs.Common.{rules, tests}
use Rattle.std.specs.List.{filter}
use Rattle.std.specs.Option.{option_map_or}
use Rattle.std.proofs.lemmas.Iterator.{YieldsList-from_slice}
use Rattle.std.proofs.lemmas.Iterator.Consumers.{nth_from_yields_List, YieldsList-from_filter}
use Rattle.call_crash_images.proofs.PutLaws.{choice_is}
use Rattle.call_crash_images.proofs.choice_of.Goals as goal

-- `call_crash_images::choice_of` meets its contract: the values of a word are those of its entries, in their order.
pub returns : goal.returns
returns c =
    let a = c.args in
    let value : c.map_or.result ≡ option_map_or (λ e. e.now.value) c.nth.result 0 = search (rules, tests) in
    value ∙ choice_is a.flushed a.w a.d a.entries.now c.nth.result (λ e. e.now) c.if-d-eq0.false
    (nth_from_yields_List {all = filter (λ e. eqb e.word a.w) a.entries.now} c.nth.result c.nth.new.self (a.d - 1)
    c.nth.ensures.ran
    (YieldsList-from_filter _ (λ e. eqb e.word a.w) (YieldsList-from_slice a.entries.now cc)
    c.filter-stored.ensures.closure (λ x r q k. search (rules, tests))))
