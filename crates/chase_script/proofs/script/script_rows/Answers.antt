use Rattle.std.proofs.Common.{Bor, List, ℕ, ◌≡◌, ◌∙◌, ◌+◌, sym, refl, rules, inl, inr, true, [], Some, Err, length}
use Rattle.std.proofs.Common.{arith, ap}
use Rattle.std.specs.Result.{is_ok}
use Rattle.csv.specs.Reading.{Reached, default_config, strip_bom}
use Rattle.csv.specs.Records.{fields_of}
use Rattle.csv.proofs.ReadFacts.{rows-end, rows-more}
use Rattle.chase_script.specs.declared.fault.RowFault.{RowFault}
use Rattle.chase_script.specs.Answer.{AreRowsFor}
use Rattle.chase_script.proofs.WhatIsLeft.{all_is_left, a_row_more, a_row_refused, nothing_left}
use Rattle.chase_script.proofs.RowsFit.{one_row_more}
use Rattle.chase_script.proofs.script.script_rows.Goals as goal

-- nothing was read yet
pub records-init : goal.records-init
unfolding AreRowsFor
records-init c =
    let fr = c.from_reader-reader.ensures in
    let f = c.flexible.ensures in
    let e = c.has_headers.ensures in
    rw c.new-rows.ensures.items (record {
      trim = rw (f, e) at fr.trim ∙ c.new.ensures.trim;
      ready = inr (inr (rw (f, e) at fr.has_headers, fr.headers));
      config = rw (f, e) at fr.config ∙ c.new.ensures.config;
      flexible = rw f at fr.flexible;
      fit = tt;
      left = strip_bom c.args.bytes.now;
      source = fr.source;
      are = rw fr.state (all_is_left c.args.count c.args.bytes.now);
    })

-- the record that was read is refused
pub returns-in-Err-row_in-clause-refuses : goal.returns-in-Err-row_in-clause-refuses
unfolding Reached
returns-in-Err-row_in-clause-refuses c =
    let inv = c.records.invariant in
    let read = rw c.if-not-found.false at c.in-Ok.ensures.reads inv.trim inv.ready in
    let m = rows-more (λ (s : Bor (List ℕ)). Some s.now) c.records.reader c.read_byte_record.new.self
    (fields_of c.read_byte_record.new.row)
    default_config c.records.reader.state inv.left inv.left [] inv.config inv.source (refl, refl) read in
    let refused = a_row_refused c.args.count c.args.bytes.now c.records.rows.items c.records.reader.state
    c.read_byte_record.new.self.state inv.left m.0 (fields_of c.read_byte_record.new.row) c.in-Err-row_in.column inv.are
    m.2
    (sym c.row_in.ensures.value ∙ c.in-Err-row_in.is) in
    let place : 1 + length c.records.rows.items ≡ c.len.result + 1 = omega (arith, c.len.ensures) in
    let at = λ (n : ℕ). let fault : RowFault = record { row = n; column = c.in-Err-row_in.column } in fault in
    refused ∙ ap (λ (n : ℕ). Err (at n)) place

-- it is a row
pub records-preserved : goal.records-preserved
unfolding Reached
records-preserved c =
    let inv = c.records.invariant in
    let read = rw c.if-not-found.false at c.in-Ok.ensures.reads inv.trim inv.ready in
    let m = rows-more (λ (s : Bor (List ℕ)). Some s.now) c.records.reader c.read_byte_record.new.self
    (fields_of c.read_byte_record.new.row)
    default_config c.records.reader.state inv.left inv.left [] inv.config inv.source (refl, refl) read in
    let good : is_ok c.push.result ≡ true = search rules in
    let items = rw good at c.push.ensures.items in
    let more = a_row_more c.args.count c.args.bytes.now c.records.rows.items c.records.reader.state
    c.read_byte_record.new.self.state inv.left m.0 (fields_of c.read_byte_record.new.row) c.in-Ok-row_in.row inv.are m.2
    (sym c.row_in.ensures.value ∙ c.in-Ok-row_in.is) in
    record {
      trim = read.3 ∙ inv.trim;
      ready = inl (c.in-Ok.ensures.ready inv.trim);
      config = read.2 ∙ inv.config;
      flexible = c.in-Ok.ensures.flexible ∙ inv.flexible;
      fit = rw items (one_row_more c.args.count c.records.rows.items c.in-Ok-row_in.row inv.fit
          c.in-Ok-row_in.ensures.fits);
      left = m.0;
      source = m.1;
      are = rw items more;
    }

-- no record was left
pub returns-then-not-found-clause-reads : goal.returns-then-not-found-clause-reads
returns-then-not-found-clause-reads c =
    let inv = c.records.invariant in
    let read = rw c.if-not-found.true at c.in-Ok.ensures.reads inv.trim inv.ready in
    nothing_left c.args.count c.args.bytes.now c.records.rows.items c.records.reader.state inv.left inv.are
    (rows-end (λ (s : Bor (List ℕ)). Some s.now) c.records.reader c.read_byte_record.new.self
    (fields_of c.read_byte_record.new.row) default_config
    inv.left inv.config inv.source read)
