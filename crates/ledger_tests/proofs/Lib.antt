mod TwoSeats
