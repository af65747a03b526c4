-- The words for what is noted of a window's records, passed on.
pub use Rattle.window_account.specs.Noted.{IsNoted, IsJudged, root_at, count_in_window}
