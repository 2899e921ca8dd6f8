-- Each call adds the definition's next line to those before it.
use Rattle.std.proofs.Common.{List, lit<, rules, take, ℕ, ◌≡◌}
use mathlib.Core.List.{flatten}
use mir.Syntax.{w64}
use mir.Val.{SFits}
use mir.ValLaws.{to_z-of_z}
use Rattle.slip_text.specs.Slip.{reconciliation_lines}
use Rattle.slip_text.proofs.Lines.{flatten_none, flatten_one_more}
use Rattle.slip_text.proofs.reconciliation_text.Goals as goal

pub returns : goal.returns
returns c =
    let r = c.args.r.now in
    let nic : SFits w64 r.nic = search rules in
    let nc : SFits w64 r.nc = search rules in
    let ls : List (List ℕ) = reconciliation_lines r in
    let t0 : c.new-text.result ≡ flatten (take 0 ls) = flatten_none ls c.new-text.ensures in
    let t1 : c.push_line.new.self ≡ flatten (take 1 ls) = flatten_one_more ls 0 (lit< tt) t0 c.push_line.ensures.0 in
    let t2 : c.push_line-2.new.self ≡ flatten (take 2 ls) = flatten_one_more ls 1 (lit< tt) t1 c.push_line-2.ensures.0 in
    let t3 : c.push_line-3.new.self ≡ flatten (take 3 ls) = flatten_one_more ls 2 (lit< tt) t2 c.push_line-3.ensures.0 in
    let t4 : c.push_line-4.new.self ≡ flatten (take 4 ls) = flatten_one_more ls 3 (lit< tt) t3 (rw (to_z-of_z w64 r.nic nic) at c.push_line-4.ensures.0) in
    let t5 : c.push_line-5.new.self ≡ flatten (take 5 ls) = flatten_one_more ls 4 (lit< tt) t4 (rw (to_z-of_z w64 r.nc nc) at c.push_line-5.ensures.0) in
    let t6 : c.push_line-6.new.self ≡ flatten (take 6 ls) = flatten_one_more ls 5 (lit< tt) t5 c.push_line-6.ensures.0 in
    let t7 : c.push_line-7.new.self ≡ flatten (take 7 ls) = flatten_one_more ls 6 (lit< tt) t6 c.push_line-7.ensures.0 in
    let t8 : c.push_line-8.new.self ≡ flatten (take 8 ls) = flatten_one_more ls 7 (lit< tt) t7 c.push_line-8.ensures.0 in
    let t9 : c.push_line-9.new.self ≡ flatten (take 9 ls) = flatten_one_more ls 8 (lit< tt) t8 c.push_line-9.ensures.0 in
    let t10 : c.push_line-10.new.self ≡ flatten (take 10 ls) = flatten_one_more ls 9 (lit< tt) t9 c.push_line-10.ensures.0 in
    flatten_one_more ls 10 (lit< tt) t10 c.push_line-11.ensures.0
