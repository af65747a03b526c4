mod SpansRead
mod TextsRead
