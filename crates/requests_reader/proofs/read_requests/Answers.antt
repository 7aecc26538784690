use Rattle.requests_reader.proofs.ReaderLaws.{size_passed, entries_passed}
use Rattle.requests_reader.proofs.ReaderLaws.{header_other, size_refused, entry_malformed, count_wrong, index-outside}
use Rattle.requests_reader.proofs.ReaderLaws.{rows_short, columns_short, can_store, all_read}
use native.Mathlib.Omega.{arith}
use mathlib.Core.Path.{refl}
use Rattle.requests_reader.proofs.read_requests.Goals as goal

pub returns-in_default : goal.returns-in_default
returns-in_default c = header_other _ _ _ c.in_default.ensures _ refl

pub returns-in_default-read_size : goal.returns-in_default-read_size
returns-in_default-read_size c = size_refused _ _ _ _ _ c.in-Some.ensures c.skip_comments-at.ensures c.in_default-read_size.ensures _ refl

pub returns-in_default-scan_entries : goal.returns-in_default-scan_entries
returns-in_default-scan_entries c =
    let sized = size_passed _ _ _ _ _ _ c.in-Some.ensures c.skip_comments-at.ensures c.in-Some-read_size.ensures in
    entry_malformed _ _ _ _ _ _ sized c.in_default-scan_entries.ensures _ refl

pub returns-then-scan-size : goal.returns-then-scan-size
returns-then-scan-size c =
    let sized = size_passed _ _ _ _ _ _ c.in-Some.ensures c.skip_comments-at.ensures c.in-Some-read_size.ensures in
    count_wrong _ _ _ _ _ _ sized _ _ c.in-Some-scan_entries.ensures c.if-scan-size.true _ refl

pub returns-then-scan : goal.returns-then-scan
returns-then-scan c =
    let sized = size_passed _ _ _ _ _ _ c.in-Some.ensures c.skip_comments-at.ensures c.in-Some-read_size.ensures in
    index-outside _ _ _ _ _ _ sized _ _ c.in-Some-scan_entries.ensures c.if-scan-size.false c.if-scan.true _ refl

pub returns-then-rows-requests : goal.returns-then-rows-requests
returns-then-rows-requests c =
    let sized = size_passed _ _ _ _ _ _ c.in-Some.ensures c.skip_comments-at.ensures c.in-Some-read_size.ensures in
    let entered = entries_passed _ _ _ _ _ _ sized c.in-Some-scan_entries.ensures c.if-scan-size.false c.if-scan.false in
    rows_short _ _ _ _ _ _ _ _ entered c.request_count-requests.ensures c.if-rows-requests.true _ refl

pub returns-then-columns-requests : goal.returns-then-columns-requests
returns-then-columns-requests c =
    let sized = size_passed _ _ _ _ _ _ c.in-Some.ensures c.skip_comments-at.ensures c.in-Some-read_size.ensures in
    let entered = entries_passed _ _ _ _ _ _ sized c.in-Some-scan_entries.ensures c.if-scan-size.false c.if-scan.false in
    columns_short _ _ _ _ _ _ _ _ entered c.request_count-requests.ensures c.if-rows-requests.false c.if-columns-requests.true _ refl

pub store_requests-requires : goal.store_requests-requires
store_requests-requires c =
    let sized = size_passed _ _ _ _ _ _ c.in-Some.ensures c.skip_comments-at.ensures c.in-Some-read_size.ensures in
    let entered = entries_passed _ _ _ _ _ _ sized c.in-Some-scan_entries.ensures c.if-scan-size.false c.if-scan.false in
    record {
      store_entries_input = (can_store _ _ _ _ _ entered, entered.size.small);
      count_in_bounds = (omega (arith, c.if-rows-requests.false, c.request_count-requests.ensures), omega (arith, c.if-columns-requests.false, c.request_count-requests.ensures));
    }

pub returns : goal.returns
returns c =
    let sized = size_passed _ _ _ _ _ _ c.in-Some.ensures c.skip_comments-at.ensures c.in-Some-read_size.ensures in
    let entered = entries_passed _ _ _ _ _ _ sized c.in-Some-scan_entries.ensures c.if-scan-size.false c.if-scan.false in
    all_read _ _ _ _ _ _ _ _ entered c.request_count-requests.ensures c.if-rows-requests.false c.if-columns-requests.false _ _ _ refl c.store_requests.ensures
