-- `reader::references::references` meets its contract: the first section with a bad reference gives the answer, and else the first sample.
-- Assumes nothing.
use mathlib.Core.Path.{◌∙◌}
use native.Mathlib.Omega.{arith}
use Rattle.std.proofs.Common.{rules}
use Rattle.table.specs.Refusals.{said}
use Rattle.network.specs.References.{ref_fault, naming_rows}
use Rattle.sheet.specs.Sheet.{network_on}
use Rattle.reader.proofs.AnsweringLaws.{section_good, first_section, before_3, before_5, samples_answer, named_from}
use Rattle.reader.proofs.references.references.Goals as goal

pub returns-in-Err : goal.returns-in-Err
unfolding said naming_rows
returns-in-Err c =
    let net = network_on c.args.net.now in
    first_section net 2 (omega arith) (omega arith) (λ t a b. absurd (omega arith)) _ c.vls.ensures.is _
    (c.in-Err.ensures (ref_fault net 2) (λ i o h post. search rules))

pub returns-in-Err-first_bad : goal.returns-in-Err-first_bad
unfolding said naming_rows
returns-in-Err-first_bad c =
    let net = network_on c.args.net.now in
    let e2 = section_good net 2 _ c.vls.ensures.is (c.in_default.ensures (ref_fault net 2) (λ i o h post. search rules)) in
    first_section net 3 (omega arith) (omega arith) (before_3 net e2) _ c.streams.ensures.is _
    (c.in-Err-first_bad.ensures (ref_fault net 3) (λ i o h post. search rules))

pub returns-in-Err-first_bad-2 : goal.returns-in-Err-first_bad-2
unfolding said naming_rows
returns-in-Err-first_bad-2 c =
    let net = network_on c.args.net.now in
    let e2 = section_good net 2 _ c.vls.ensures.is (c.in_default.ensures (ref_fault net 2) (λ i o h post. search rules)) in
    let e3 = section_good net 3 _ c.streams.ensures.is (c.in_default-first_bad.ensures (ref_fault net 3) (λ i o h post. search rules)) in
    first_section net 5 (omega arith) (omega arith) (before_5 net e2 e3) _ c.hops.ensures.is _
    (c.in-Err-first_bad-2.ensures (ref_fault net 5) (λ i o h post. search rules))

pub samples-requires : goal.samples-requires
unfolding said naming_rows
samples-requires c =
    let net = network_on c.args.net.now in
    named_from net c.requires (section_good net 3 _ c.streams.ensures.is (c.in_default-first_bad.ensures (ref_fault net 3) (λ i o h post. search rules)))

pub returns : goal.returns
unfolding said naming_rows
returns c =
    let net = network_on c.args.net.now in
    let e2 = section_good net 2 _ c.vls.ensures.is (c.in_default.ensures (ref_fault net 2) (λ i o h post. search rules)) in
    let e3 = section_good net 3 _ c.streams.ensures.is (c.in_default-first_bad.ensures (ref_fault net 3) (λ i o h post. search rules)) in
    let e5 = section_good net 5 _ c.hops.ensures.is (c.in_default-first_bad-2.ensures (ref_fault net 5) (λ i o h post. search rules)) in
    c.samples.ensures ∙ samples_answer net e2 e3 e5
